use Rattle.std.proofs.Common.{◌≡◌, ◌+◌, ◌*◌, ◌++◌, length, vec_len, vec_capacity}
use Rattle.hex.specs.Hex.{encode_upper}
use Rattle.diag_can.proofs.hex_text.add_hex.Given as goal

abbrev pub invariant-loop-eight : goal.invariant-loop-eight
invariant-loop-eight l = record {
  -- what is written so far, and the hex of what is left
  written : l.text.items ++ encode_upper l.rest ≡ l.initial.text.items ++ encode_upper l.bytes;
  -- in the room that there was
  len : vec_len l.text + 2 * length l.rest ≡ vec_len l.initial.text + 2 * length l.bytes;
  capacity : vec_capacity l.text ≡ vec_capacity l.initial.text;
}

abbrev pub decreases-loop-eight : goal.decreases-loop-eight
decreases-loop-eight l = length l.rest
