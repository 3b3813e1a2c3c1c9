use Rattle.std.proofs.Common.{◌≡◌, ℕ, List}
use Rattle.std.specs.List.{filter_map, reduce}
use Rattle.diag_pdu.specs.Cut.{counted_from}
use Rattle.diag_bus.specs.Comparing.{ComparesLines}
use Rattle.diag_bus.specs.Verdict.{difference_of, earlier}
use Rattle.diag_bus.proofs.comparing.Comparisons.first_difference.Given as goal

abbrev pub invariant-loop-index : goal.invariant-loop-index
invariant-loop-index l = (lines : List (List ℕ)) → ComparesLines l.setup l.self lines
    → l.first ≡ reduce earlier (filter_map (difference_of l.setup lines) (counted_from 1 l.index))
