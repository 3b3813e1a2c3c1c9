use Rattle.std.proofs.Common.{◌≡◌, vec_len, vec_capacity}
use Rattle.diag_exchange.specs.Streaming.{asked_again}
use Rattle.diag_exchange.proofs.Loops.{mapped}
use Rattle.diag_exchange.proofs.exchanges.ask_again.Given as goal

abbrev pub invariant-loop-index : goal.invariant-loop-index
invariant-loop-index l =
    (l.live.items ≡ mapped (asked_again l.request) l.index l.initial.live.items) × (vec_len l.live ≡ vec_len l.initial.live) ×
    (vec_capacity l.live ≡ vec_capacity l.initial.live)
