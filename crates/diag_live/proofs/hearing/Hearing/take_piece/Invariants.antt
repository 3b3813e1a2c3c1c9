use Rattle.std.proofs.Common.{length}
use Rattle.diag_live.proofs.Hearings.{HeardSoFar}
use Rattle.diag_live.proofs.hearing.Hearing.take_piece.Given as goal

abbrev pub invariant-loop-end : goal.invariant-loop-end
invariant-loop-end l = HeardSoFar l.known l.initial.self l.self l.initial.text.items l.text.items l.piece l.rest

abbrev pub decreases-loop-end : goal.decreases-loop-end
decreases-loop-end l = length l.rest
