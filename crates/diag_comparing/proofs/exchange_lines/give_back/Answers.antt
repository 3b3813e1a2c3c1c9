use Rattle.std.proofs.Common.{arith}
use Rattle.std.proofs.lemmas.List.{nil_from_length}
use Rattle.diag_comparing.proofs.exchange_lines.give_back.Goals as goal

pub returns : goal.returns
returns c = nil_from_length c.loop-turn.told.items (omega (arith, c.loop-turn.invariant, c.loop-turn-test.false, c.len-turn-end.ensures, c.loop-turn.told.ok))
