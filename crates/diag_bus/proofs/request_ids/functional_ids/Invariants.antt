use Rattle.diag_bus.specs.RequestIds.{AreFunctional}
use Rattle.diag_bus.proofs.request_ids.functional_ids.Given as goal

abbrev pub invariant-loop-index : goal.invariant-loop-index
invariant-loop-index l = AreFunctional l.setup l.ids.items l.index
