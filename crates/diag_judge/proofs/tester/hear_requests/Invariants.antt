use Rattle.std.proofs.Common.{◌≡◌, ◌+◌, List, ◌++◌, drop, take, vec_len}
use Rattle.std.specs.Prelude.{reverse}
use Rattle.diag_can.specs.Event.{Event}
use Rattle.diag_exchange.specs.Exchanges.{over_after}
use Rattle.diag_exchange.specs.declared.happening.Happening.{Happening}
use Rattle.diag_listen.specs.Listening.{Listens}
use Rattle.diag_judge.specs.Judging.{requests_happen}
use Rattle.diag_judge.proofs.tester.hear_requests.Given as goal

-- so many requests were heard, and those that are left stand turned round
abbrev pub invariant-loop-turn : goal.invariant-loop-turn
invariant-loop-turn l = record {
  left : reverse l.entered.items ≡ drop l._turn l.fn.entered.items;
  many : vec_len l.entered + l._turn ≡ vec_len l.fn.entered;
  heard : (E : List Event) (hs : List Happening) → Listens l.fn.listener E hs
      → Listens l.listener E (hs ++ requests_happen l.setup l.at (take l._turn l.fn.entered.items))
      × (l.over.items ≡ l.fn.over.items ++ over_after hs (requests_happen l.setup l.at (take l._turn l.fn.entered.items)));
  link_setup : l.listener.setup ≡ l.fn.listener.setup;
}
