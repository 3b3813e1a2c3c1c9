use Rattle.diag_exchange.proofs.Agreements.{SameSoFar}
use Rattle.diag_exchange.proofs.agreeing.same_but.Given as goal

abbrev pub invariant-loop-index : goal.invariant-loop-index
invariant-loop-index l = SameSoFar l.marks l.sent l.reply l.index
