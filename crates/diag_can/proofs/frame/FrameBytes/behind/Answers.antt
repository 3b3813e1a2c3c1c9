use Rattle.std.proofs.Common.{length, ap, rules, arith, ◌<◌}
use Rattle.std.proofs.lemmas.List.{length-take-le}
use Rattle.diag_can.proofs.Moved.{behind_one}
use Rattle.diag_can.proofs.frame.FrameBytes.behind.Goals as goal

pub returns : goal.returns
returns c =
    let here = c.self.view_is in
    let eight = c.self.inside.bytes in
    let len = c.self.inside.len in
    let count = length-take-le len eight (omega (arith, c.self.told, c.self.invariant)) in
    let few : len < 8 = omega (arith, c.requires, ap length here, count) in
    rw (← here) (behind_one eight c.to_le_bytes.result len c.args.first c.from_le_bytes.result c.self.told (search rules) c.from_le_bytes.ensures few
    (search rules) (rw c.from.ensures at c.to_le_bytes.ensures))
