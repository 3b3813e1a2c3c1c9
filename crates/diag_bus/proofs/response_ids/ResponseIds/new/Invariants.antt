use Rattle.std.proofs.Common.{◌≡◌, ℕ, Option, Some, length}
use Rattle.std.specs.Prelude.{slice_get}
use Rattle.diag_bus.specs.ResponseIds.{IsResponder}
use Rattle.diag_bus.proofs.response_ids.ResponseIds.new.Given as goal

abbrev pub invariant-loop-number : goal.invariant-loop-number
invariant-loop-number l = record {
  many : length l.testers.items ≡ l.number;
  each : (id : ℕ) (responder : Option ℕ) → slice_get l.testers.items id ≡ Some responder → IsResponder l.setup id (length l.setup.testers) responder;
}
