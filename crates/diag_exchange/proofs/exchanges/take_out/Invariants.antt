use Rattle.std.proofs.Common.{◌≡◌, ◌≤◌, ◌+◌, ◌++◌, map, vec_len, vec_capacity}
use Rattle.diag_exchange.specs.Streaming.{told, is_done}
use Rattle.diag_exchange.proofs.Loops.{left_of, place_of, gone_of}
use Rattle.diag_exchange.proofs.exchanges.take_out.Given as goal

abbrev pub invariant-loop-turn : goal.invariant-loop-turn
invariant-loop-turn l = record {
  live : l.live.items ≡ left_of (is_done l.asked) l._turn l.initial.live.items;
  place : l.at ≡ place_of (is_done l.asked) l._turn l.initial.live.items;
  over : l.over.items ≡ l.initial.over.items ++ map told (gone_of (is_done l.asked) l._turn l.initial.live.items);
  len : vec_len l.over + vec_len l.live ≡ vec_len l.initial.over + vec_len l.initial.live;
  shorter : vec_len l.live ≤ vec_len l.initial.live;
  capacity : vec_capacity l.over ≡ vec_capacity l.initial.over;
  room : vec_capacity l.live ≡ vec_capacity l.initial.live;
}
