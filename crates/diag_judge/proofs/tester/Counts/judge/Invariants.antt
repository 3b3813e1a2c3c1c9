use Rattle.std.proofs.Common.{◌≡◌, ◌≤◌, ◌+◌, List, ◌++◌, drop, map, take, vec_capacity, vec_len}
use Rattle.std.specs.Prelude.{reverse}
use Rattle.diag_exchange.specs.Over.{Over}
use Rattle.diag_judge.specs.Judging.{AreCounts, judged_for}
use Rattle.diag_judge.proofs.tester.Counts.judge.Given as goal

-- so many were judged and counted, and those that are left stand turned round
abbrev pub invariant-loop-turn : goal.invariant-loop-turn
invariant-loop-turn l = record {
  left : reverse l.over.items ≡ drop l._turn l.fn.over.items;
  many : vec_len l.over + l._turn ≡ vec_len l.fn.over;
  room : vec_len l.judged + vec_len l.over ≤ vec_capacity l.judged;
  judged : l.judged.items ≡ l.fn.judged.items ++ map (judged_for l.who) (take l._turn l.fn.over.items);
  counts : (before : List Over) → AreCounts l.fn.self before → AreCounts l.self (before ++ take l._turn l.fn.over.items);
}
