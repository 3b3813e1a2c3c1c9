use Rattle.std.proofs.Common.{◌≡◌, take}
use Rattle.std.specs.Prelude.{map}
use Rattle.std.specs.List.{All}
use Rattle.diag_setup.specs.Fits.{RoutineFits}
use Rattle.diag_store.specs.Opening.{routine_row}
use Rattle.diag_store.proofs.routines.Routines.new.Given as goal

-- the rows of those so far
abbrev pub invariant-loop-routine : goal.invariant-loop-routine
invariant-loop-routine l = record {
  rows : l.rows.items ≡ map routine_row (take l.routine-index l.routines);
  fit : All RoutineFits l.routines;
}
