use Rattle.std.proofs.Common.{◌≡◌, ◌≤◌, length, take}
use Rattle.std.specs.Prelude.{map, vec_capacity}
use Rattle.diag_store.specs.Answers.{filled_item}
use Rattle.diag_store.proofs.answers.fill.Given as goal

-- the bytes of the items so far
abbrev pub invariant-loop-item : goal.invariant-loop-item
invariant-loop-item l = record {
  bytes : l.bytes.items ≡ map (filled_item l.p) (take l.item-index l.items);
  room : length l.items ≤ vec_capacity l.bytes;
}
