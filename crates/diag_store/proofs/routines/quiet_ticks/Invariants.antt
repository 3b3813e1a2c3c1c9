use Rattle.std.proofs.Common.{◌≡◌, ◌≤◌, drop}
use Rattle.std.specs.Prelude.{min}
use Rattle.diag_store.specs.Routines.{quiet_ticks}
use Rattle.diag_store.proofs.routines.quiet_ticks.Given as goal

-- the least so far, and that of the rest
abbrev pub invariant-loop-row : goal.invariant-loop-row
invariant-loop-row l = record {
  told : min l.least (quiet_ticks (drop l.row-index l.rows)) ≡ quiet_ticks l.rows;
  fits : l.least ≤ 0xFFFFFFFF;
}
