use Rattle.std.proofs.Common.{◌≡◌, ◌≤◌, length, take}
use Rattle.diag_store.proofs.answers.Templates.try_copy.Given as goal

-- the templates so far
abbrev pub invariant-loop-row : goal.invariant-loop-row
invariant-loop-row l = record {
  rows : l.rows.items ≡ take l.row-index l.row-items;
  few : length l.row-items ≤ 4096;
}
