use Rattle.diag_bus.specs.RequestIds.{IsOwner}
use Rattle.diag_bus.proofs.request_ids.owner_of.Given as goal

abbrev pub invariant-loop-index : goal.invariant-loop-index
invariant-loop-index l = IsOwner l.setup l.id l.index l.owner
