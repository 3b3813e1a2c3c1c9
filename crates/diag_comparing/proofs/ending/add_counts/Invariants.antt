use Rattle.std.proofs.Common.{◌≡◌, ◌++◌, take}
use Rattle.diag_comparing.specs.Keeping.{count_lines}
use Rattle.diag_comparing.proofs.ending.add_counts.Given as goal

abbrev pub invariant-loop-index : goal.invariant-loop-index
invariant-loop-index l = l.text.items ≡ l.fn.text.items ++ count_lines l.setup 1 (take l.index l.counts)
