use Rattle.std.proofs.Common.{◌≡◌, [], length}
use Rattle.std.specs.List.{All}
use Rattle.diag_bus.proofs.bus.empty_lists.Given as goal

abbrev pub invariant-loop-made : goal.invariant-loop-made
invariant-loop-made l = (length l.lists.items ≡ l.made) × All (λ list. list.items ≡ []) l.lists.items
