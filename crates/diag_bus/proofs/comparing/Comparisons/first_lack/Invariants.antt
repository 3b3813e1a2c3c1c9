use Rattle.diag_bus.proofs.Verdicts.{NoneLack}
use Rattle.diag_bus.proofs.comparing.Comparisons.first_lack.Given as goal

abbrev pub invariant-loop-index : goal.invariant-loop-index
invariant-loop-index l = NoneLack l.setup l.self l.index
