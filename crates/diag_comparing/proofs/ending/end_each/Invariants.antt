use Rattle.std.proofs.Common.{◌≡◌, ℕ, List, [], ◌++◌, length, map}
use Rattle.std.specs.List.{flat_map}
use Rattle.diag_pdu.specs.Cut.{counted_from}
use Rattle.diag_compare.specs.Compare.{open_for}
use Rattle.diag_compare.specs.Expects.{expects}
use Rattle.diag_comparing.specs.Keeping.{AreTesters, judged_pair, tester_counts}
use Rattle.diag_comparing.proofs.ending.end_each.Given as goal

-- the testers before an index were ended
abbrev pub invariant-loop-index : goal.invariant-loop-index
invariant-loop-index l = record {
  judged : (lines : List (List ℕ)) → AreTesters l.setup lines [] l.testers
      → l.judged.items ≡ l.fn.judged.items ++ map judged_pair (flat_map (open_for (expects l.setup) l.setup lines) (counted_from 1 l.index));
  counts : (lines : List (List ℕ)) → AreTesters l.setup lines [] l.testers
      → l.counts.items ≡ map (tester_counts l.setup lines) (counted_from 1 l.index);
  many : length l.counts.items ≡ l.index;
}
