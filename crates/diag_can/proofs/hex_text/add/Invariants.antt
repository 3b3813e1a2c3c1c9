use Rattle.std.proofs.Common.{◌≡◌, ◌+◌, ◌++◌, take, vec_len, vec_capacity}
use Rattle.diag_can.proofs.hex_text.add.Given as goal

abbrev pub invariant-loop-byte : goal.invariant-loop-byte
invariant-loop-byte l = record {
  -- so many bytes stand behind those that were there
  written : l.text.items ≡ l.initial.text.items ++ take l.byte-index l.bytes;
  -- in the room that there was
  len : vec_len l.text ≡ vec_len l.initial.text + l.byte-index;
  capacity : vec_capacity l.text ≡ vec_capacity l.initial.text;
}
