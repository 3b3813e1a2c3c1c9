use Rattle.std.proofs.Common.{◌+◌, ◌≤◌, length, ap, rules, arith}
use Rattle.std.proofs.lemmas.List.{length-take-le}
use Rattle.diag_can.proofs.Moved.{moved_part}
use Rattle.diag_can.proofs.frame.FrameBytes.part.Goals as goal

pub returns : goal.returns
returns c =
    let here = c.self.view_is in
    let eight = c.self.inside.bytes in
    let len = c.self.inside.len in
    let count = length-take-le len eight (omega (arith, c.self.told, c.self.invariant)) in
    let inside : c.args.from + c.args.count ≤ len = omega (arith, c.requires.inside, ap length here, count) in
    rw (← here) (moved_part eight c.to_le_bytes.result len c.args.from c.args.count c.from_le_bytes.result (search rules) (search rules)
    c.from_le_bytes.ensures inside c.self.invariant c.to_le_bytes.ensures)
