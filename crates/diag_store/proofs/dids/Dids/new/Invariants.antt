use Rattle.std.proofs.Common.{◌≡◌, take}
use Rattle.std.specs.Prelude.{map}
use Rattle.std.specs.List.{All}
use Rattle.diag_setup.specs.Fits.{DidFits}
use Rattle.diag_store.specs.Opening.{did_row}
use Rattle.diag_store.proofs.dids.Dids.new.Given as goal

-- the rows of those so far
abbrev pub invariant-loop-did : goal.invariant-loop-did
invariant-loop-did l = record {
  rows : l.rows.items ≡ map did_row (take l.did-index l.dids);
  fit : All DidFits l.dids;
}
