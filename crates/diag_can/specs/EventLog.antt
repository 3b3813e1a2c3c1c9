-- The events of a log as they are kept: the bytes of frames of more than 8 stand one behind the other, beside the events.
use Rattle.std.specs.Prelude.{◌≡◌, ℕ, ◌+◌, ◌<◌, ◌≤◌, ◌⊎◌, List, length, take, drop}
use Rattle.diag_can.specs.Event as event
use Rattle.diag_can.specs.Event.{Event}
use Rattle.diag_can.specs.Line.{addressed}
use Rattle.diag_can.specs.Log.{most_events}
use Rattle.diag_can.specs.declared.event_log.KeptEvent.{KeptEvent}
use Rattle.diag_can.specs.declared.event_log.KeptEvent.TheVariants.{Physical, Functional, Ticks, Long}
use Rattle.diag_can.specs.declared.fault.Limit.{Limit}
use Rattle.diag_can.specs.declared.fault.Limit.TheVariants as limit

-- the events, in order
pub record Events : Type 0 where
  pub items : List Event

-- what is kept as this, where these are the bytes of the long frames
abbrev pub event_in : List ℕ → KeptEvent → Event
event_in long (Physical bytes) = event.Physical bytes
event_in long (Functional bytes) = event.Functional bytes
event_in long (Ticks count) = event.Ticks count
event_in long (Long frame) = addressed frame.addressing (take frame.len (drop frame.from long))

-- its bytes are there
abbrev pub FitsIn : List ℕ → KeptEvent → Type 0
FitsIn long (Physical bytes) = Unit {0}
FitsIn long (Functional bytes) = Unit {0}
FitsIn long (Ticks count) = Unit {0}
FitsIn long (Long frame) = (8 < frame.len) × (frame.len ≤ 64) × (frame.from + frame.len ≤ length long)

-- why a log of these events may refuse one more: it is full, or memory is refused
abbrev pub IsRefused : List Event → Limit → Type 0
IsRefused events reason = ((reason ≡ limit.Events) × (most_events ≤ length events)) ⊎ ((reason ≡ limit.Memory) × (length events < most_events))
