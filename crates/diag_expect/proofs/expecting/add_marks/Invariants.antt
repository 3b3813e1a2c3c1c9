use Rattle.std.proofs.Common.{◌≡◌, ◌++◌, length}
use Rattle.std.specs.Prelude.{flat_map}
use Rattle.diag_ecu.specs.Respond.{ids_in}
use Rattle.diag_expect.specs.Expecting.{marks_at}
use Rattle.diag_expect.proofs.expecting.add_marks.Given as goal

-- the marks so far, before those of the identifiers that are left
abbrev pub invariant-loop-rest : goal.invariant-loop-rest
invariant-loop-rest l = l.marks.items ++ flat_map (marks_at l.setup) (ids_in l.rest) ≡ l.fn.marks.items ++ flat_map (marks_at l.setup) (ids_in l.ids)

abbrev pub decreases-loop-rest : goal.decreases-loop-rest
decreases-loop-rest l = length l.rest
