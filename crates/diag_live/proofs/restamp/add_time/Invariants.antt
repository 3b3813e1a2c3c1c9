use Rattle.std.proofs.Common.{◌≡◌, ◌++◌, replicate}
use Rattle.diag_live.specs.Live.{Ticked, capture_of, record_text}
use Rattle.diag_live.proofs.restamp.add_time.Given as goal

abbrev pub invariant-loop : goal.invariant-loop
invariant-loop l = l.text.items ≡ l.initial.text.items ++ record_text (capture_of (replicate l.counter (Ticked 60000)))
