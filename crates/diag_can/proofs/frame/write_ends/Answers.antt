use Rattle.std.proofs.Common.{◌-◌, length, arith}
use Rattle.diag_can.proofs.Frames.{ends}
use Rattle.diag_can.proofs.frame.write_ends.Goals as goal

pub returns : goal.returns
returns c =
    let bytes = c.args.bytes.now in
    let required = c.requires in
    rw (c.copy_from_slice.ensures.after, c.copy_from_slice-2.ensures.after)
    (ends c.args.array.now bytes c.args.at c.args.count (length bytes - c.args.count) (omega (arith, required.room, c.told-array)) required.inside
    (omega arith) (omega (arith, required.all)) (omega arith))
