use Rattle.std.proofs.Common.{◌≡◌, ◌++◌, replicate}
use Rattle.diag_expect.proofs.expecting.add_many.Given as goal

abbrev pub invariant-loop-made : goal.invariant-loop-made
invariant-loop-made l = l.marks.items ≡ l.fn.marks.items ++ replicate l._made l.mark
