use Rattle.std.proofs.Common.{◌≡◌, ◌≤◌, ◌++◌, length, replicate}
use Rattle.diag_can.specs.Event.{Ticks}
use Rattle.diag_can.proofs.log.push_time.Given as goal

-- the longest ticks so far stand behind the events that were there
abbrev pub invariant-loop : goal.invariant-loop
invariant-loop l = (l.events.items ≡ l.initial.events.items ++ replicate l.counter (Ticks 60000)) × (length l.events.items ≤ 1000000)
