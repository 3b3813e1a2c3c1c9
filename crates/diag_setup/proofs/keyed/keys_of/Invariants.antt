use Rattle.std.proofs.Common.{◌≡◌, length, map, take}
use Rattle.diag_setup.proofs.keyed.keys_of.Given as goal

-- those of the rows so far
abbrev pub invariant-loop-row : goal.invariant-loop-row
invariant-loop-row g l = record {
  items : l.keys.items ≡ map g.T.Keyed.key_of (take l.row-index l.rows);
  count : length l.keys.items ≡ l.row-index;
}
