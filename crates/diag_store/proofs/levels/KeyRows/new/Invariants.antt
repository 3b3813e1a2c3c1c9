use Rattle.std.proofs.Common.{◌≡◌, take}
use Rattle.std.specs.Prelude.{map}
use Rattle.std.specs.List.{All}
use Rattle.diag_setup.specs.Fits.{KeyRowFits}
use Rattle.diag_store.specs.Opening.{key_row}
use Rattle.diag_store.proofs.levels.KeyRows.new.Given as goal

-- the rows of those so far
abbrev pub invariant-loop-row : goal.invariant-loop-row
invariant-loop-row l = record {
  rows : l.rows.items ≡ map key_row (take l.row-index l.key_rows);
  fit : All KeyRowFits l.key_rows;
}
