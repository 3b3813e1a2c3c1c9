use Rattle.std.proofs.Common.{◌≡◌, ◌+◌, ◌*◌, ◌++◌, drop, vec_len, vec_capacity}
use Rattle.diag_told.specs.Told.{bytes_text}
use Rattle.diag_told.proofs.telling.add_marked.Given as goal

-- what was added before what is still to be added, and how much that is
abbrev pub invariant-loop-at : goal.invariant-loop-at
invariant-loop-at l = record {
  items : l.text.items ++ bytes_text (drop l.at l.marks) (drop l.at l.bytes) ≡ l.fn.text.items ++ bytes_text l.marks l.bytes;
  len : vec_len l.text ≡ vec_len l.fn.text + 2 * l.at;
  capacity : vec_capacity l.text ≡ vec_capacity l.fn.text;
}
