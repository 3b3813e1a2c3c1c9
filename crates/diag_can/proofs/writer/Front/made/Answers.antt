use Rattle.std.proofs.Common.{◌+◌, ◌-◌, length, arith}
use Rattle.diag_can.proofs.Hex.{front_is}
use Rattle.diag_can.proofs.writer.Front.made.Goals as goal

pub returns : goal.returns
returns c =
    let name = c.args.name.now in
    let behind = c.args.behind.now in
    let written = c.copy_from_slice-2.ensures.after in
    record {
      short = omega arith;
      is = λ _. rw written (front_is name c.copy_from_slice.new.self _ behind (length name + length behind - length name) c.copy_from_slice.ensures.after);
    }
