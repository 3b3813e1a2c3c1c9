use Rattle.std.proofs.Common.{◌≡◌, true, ℕ, List}
use Rattle.std.specs.List.{list_all}
use Rattle.diag_pdu.specs.Cut.{counted_from}
use Rattle.diag_bus.specs.Comparing.{ComparesLines}
use Rattle.diag_text.specs.Agreed.{has_none}
use Rattle.diag_text.proofs.told.compares_nothing.Given as goal

abbrev pub invariant-loop-index : goal.invariant-loop-index
invariant-loop-index l = (lines : List (List ℕ)) → ComparesLines l.setup l.kept lines
    → list_all (has_none l.setup lines) (counted_from 1 l.index) ≡ true
