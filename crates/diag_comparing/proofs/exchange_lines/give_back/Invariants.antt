use Rattle.std.proofs.Common.{◌≡◌, ◌+◌, vec_len}
use Rattle.diag_comparing.proofs.exchange_lines.give_back.Given as goal

-- one less with each turn
abbrev pub invariant-loop-turn : goal.invariant-loop-turn
invariant-loop-turn l = vec_len l.told + l._turn ≡ vec_len l.fn.told
