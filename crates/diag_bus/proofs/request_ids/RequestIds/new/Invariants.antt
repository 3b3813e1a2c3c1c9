use Rattle.std.proofs.Common.{◌≡◌, ℕ, Some, length}
use Rattle.std.specs.Prelude.{slice_get}
use Rattle.diag_bus.specs.RequestIds.{IsOwner}
use Rattle.diag_bus.specs.declared.request_ids.Owner.{Owner}
use Rattle.diag_bus.proofs.request_ids.RequestIds.new.Given as goal

abbrev pub invariant-loop-number : goal.invariant-loop-number
invariant-loop-number l = record {
  many : length l.owners.items ≡ l.number;
  each : (id : ℕ) (owner : Owner) → slice_get l.owners.items id ≡ Some owner → IsOwner l.setup id (length l.setup.testers) owner;
}
