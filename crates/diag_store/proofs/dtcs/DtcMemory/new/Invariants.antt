use Rattle.std.proofs.Common.{◌≡◌, take}
use Rattle.std.specs.Prelude.{map}
use Rattle.std.specs.List.{All}
use Rattle.diag_setup.specs.Fits.{DtcFits}
use Rattle.diag_store.specs.Opening.{dtc_row}
use Rattle.diag_store.proofs.dtcs.DtcMemory.new.Given as goal

-- the rows of those so far
abbrev pub invariant-loop-row : goal.invariant-loop-row
invariant-loop-row l = record {
  rows : l.rows.items ≡ map dtc_row (take l.row-index l.dtcs);
  fit : All DtcFits l.dtcs;
}
