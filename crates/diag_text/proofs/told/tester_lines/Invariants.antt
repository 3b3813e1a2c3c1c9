use Rattle.std.proofs.Common.{◌≡◌, ℕ, List}
use Rattle.std.specs.List.{flat_map}
use Rattle.diag_pdu.specs.Cut.{counted_from}
use Rattle.diag_bus.specs.Comparing.{ComparesLines}
use Rattle.diag_bus.specs.Verdict.{agreed_line}
use Rattle.diag_text.proofs.told.tester_lines.Given as goal

abbrev pub invariant-loop-index : goal.invariant-loop-index
invariant-loop-index l = (lines : List (List ℕ)) → ComparesLines l.setup l.kept lines
    → l.text.items ≡ flat_map (agreed_line l.setup lines) (counted_from 1 l.index)
