use Rattle.std.proofs.Common.{◌≡◌, ◌++◌, take, drop}
use Rattle.std.specs.Prelude.{map}
use Rattle.diag_store.specs.Routines.{row_later}
use Rattle.diag_store.proofs.routines.pass_all.Given as goal

-- the rows so far are so many ticks on, and the rest as before
abbrev pub invariant-loop-row : goal.invariant-loop-row
invariant-loop-row l = l.rows ≡ map (row_later l.count) (take l.row-index l.initial.rows) ++ drop l.row-index l.initial.rows
