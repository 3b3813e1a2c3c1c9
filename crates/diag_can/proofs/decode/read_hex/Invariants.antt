use Rattle.std.proofs.Common.{◌≡◌, ◌+◌, vec_len, vec_capacity}
use Rattle.diag_can.proofs.Pairs.{IsAppended}
use Rattle.diag_can.proofs.decode.read_hex.Given as goal

abbrev pub invariant-loop-count : goal.invariant-loop-count
invariant-loop-count l = record {
  -- so many pairs were read
  read : IsAppended l.text l.initial.bytes.items l.bytes.items l.count;
  -- in the room that there was
  len : vec_len l.bytes ≡ vec_len l.initial.bytes + l.count;
  capacity : vec_capacity l.bytes ≡ vec_capacity l.initial.bytes;
}
