-- An event whose bytes are lent.
use Rattle.std.specs.Prelude.{ℕ, List, []}
use Rattle.diag_can.specs.Event.{Event}
use Rattle.diag_can.specs.Event as event
use Rattle.diag_can.specs.declared.lent_event.EventKind.{EventKind}
use Rattle.diag_can.specs.declared.lent_event.EventKind.TheVariants.{Physical, Functional, Ticks}

-- the event that it is
abbrev pub event_of : EventKind → Event
event_of (Physical bytes) = event.Physical bytes
event_of (Functional bytes) = event.Functional bytes
event_of (Ticks count) = event.Ticks count

-- the data of its frame, if it has one
abbrev pub data_of : Event → List ℕ
data_of (event.Physical bytes) = bytes
data_of (event.Functional bytes) = bytes
data_of (event.Ticks count) = []
