use Rattle.diag_bus.specs.ResponseIds.{IsResponder}
use Rattle.diag_bus.proofs.response_ids.responder_of.Given as goal

abbrev pub invariant-loop-index : goal.invariant-loop-index
invariant-loop-index l = IsResponder l.setup l.id l.index l.responder
