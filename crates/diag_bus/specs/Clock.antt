-- The clock of a recording: where the bus's time begins, and how a line takes it on.
use Rattle.std.specs.Prelude.{◌≡◌, ◌<◌, ◌^◌, ℕ, ◌+◌, IfSome, List, Option, Some, None, Ok}
use Rattle.diag_can.specs.declared.bus_line.BusLine.{BusLine}
use Rattle.diag_can.specs.declared.bus_line.BusLine.TheVariants.{Empty, Ticks, Stamped}
use Rattle.diag_can.specs.Reading.{later}
use Rattle.diag_setup.specs.declared.raw.RawSetup.{RawSetup}
use Rattle.diag_bus.specs.Events.{moment_said, span_said}
use Rattle.diag_bus.specs.Text.{start_after, start_said}
use Rattle.diag_bus.specs.declared.clock.Clock.{Clock}
use Rattle.diag_bus.specs.declared.clock.Start.{Start}

-- ---- moments

-- a line's moment is below this: its seconds have at most twelve digits
abbrev pub moment_end : ℕ
moment_end = 10 ^ 15

-- the moment that a line says, if any, is below this
abbrev pub SaidBelow : BusLine → ℕ → Type 0
SaidBelow Empty most = Unit {0}
SaidBelow (Ticks count) most = Unit {0}
SaidBelow (Stamped moment frame) most = moment < most

-- the moment of the first stamped line, if there was one, is below this
abbrev pub StartsBelow : Option Start → ℕ → Type 0
StartsBelow start most = IfSome start (λ s. s.moment < most)

-- ---- the clock

-- the start, where it is known, or as further lines have it
abbrev pub resumed : RawSetup → Option Start → ℕ → List (List ℕ) → Option Start
resumed setup (Some start) before next = Some start
resumed setup None before next = start_after setup before next

-- the same where a line that says this stands before them
abbrev pub resumed_by : RawSetup → Option Start → ℕ → BusLine → List (List ℕ) → Option Start
resumed_by setup (Some start) before said next = Some start
resumed_by setup None before said next = start_said before (Ok said) (λ sum. start_after setup sum next)

-- where the bus's time begins, once a line of this moment came
abbrev pub started_at : Option Start → ℕ → ℕ → Option Start
started_at None moment before = Some (record { moment = moment; before = before })
started_at (Some start) moment before = Some start

-- the clock after a line that says this
pub record GoesOn (setup : RawSetup) (old : Clock) (said : BusLine) (new : Clock) : Type 0 where
  pub reference : new.reference ≡ later old.reference (moment_said (Ok said))
  pub time : new.time ≡ old.time + span_said old.reference (Ok said)
  pub start : (next : List (List ℕ)) → resumed_by setup old.start old.time said next
      ≡ resumed setup new.start new.time next
