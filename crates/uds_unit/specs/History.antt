-- What the calls of a unit have made: an interleaving of the testers' events, its journal, and the frames that were sent.
use Rattle.std.specs.Prelude.{ℕ, List, [], ◌∷◌, ◌++◌, length, map, drop, Option, Some, None}
use Rattle.std.specs.List.{flat_map}
use Rattle.diag_can.specs.declared.bus_line.BusLine.TheVariants.{Stamped}
use Rattle.diag_can.specs.Event.{Event}
use Rattle.diag_can.specs.declared.frame.Frame.{Frame}
use Rattle.diag_pdu.specs.Cut.{counted_from}
use Rattle.diag_tp.specs.declared.sent.Sent.{Sent}
use Rattle.diag_setup.specs.declared.raw.RawSetup.{RawSetup}
use Rattle.diag_setup.specs.Rows.{in_order}
use Rattle.diag_setup.specs.Setup.{link_of}
use Rattle.diag_store.specs.Dids.{with_value}
use Rattle.diag_store.specs.Dtcs.{with_status}
use Rattle.diag_ecu.specs.State.{State, opening}
use Rattle.diag_desk.specs.declared.entry.Entry.{Entry}
use Rattle.diag_desk.specs.Legal.{after}
use Rattle.diag_desk.specs.Timed.{Timed, entries_of, timed}
use Rattle.diag_world.specs.Server.{sent_by}
use Rattle.diag_world.specs.Weaving.{steps_of}
use Rattle.diag_bus.specs.Events.{said_gives}
use Rattle.diag_bus.specs.Text.{answered, drawn_for, time_of}
use Rattle.diag_bus.specs.Drawn.{Drawn}
use Rattle.uds_unit.specs.Moments.{clock_at, reference_of}
use Rattle.uds_unit.specs.declared.clock.Clock.{Clock}

-- A call that changes a unit: a moment in milliseconds with the frame then, if any; or what the ECU's own software sets, a
-- value of an identifier or the status of a DTC.
pub data Call : Type 0 where
  At : ℕ → Option Frame → Call
  SetValue : ℕ → List ℕ → Call
  SetStatus : ℕ → ℕ → Call

-- What the calls have made. The ECU was opened so, or set so last; before that there were these entries, each with the
-- delay of its reply. The events are those of all calls, and the frames were sent in this order.
pub record History : Type 0 where
  pub opened : State
  pub past : List Timed
  pub events : List (ℕ × Event)
  pub clock : Option Clock
  pub sent : List Drawn

-- ---- the run

-- the journal since the ECU was opened or set: the one legal run from there that asks what the events give behind the
-- entries before
abbrev pub journal_of : RawSetup → History → List Entry
journal_of setup h = answered h.opened (drop (length h.past) (steps_of (link_of setup) h.events))

-- all entries, each with the delay of its reply
abbrev pub timed_of : RawSetup → History → List Timed
timed_of setup h = h.past ++ timed h.opened (journal_of setup h)

-- all entries
abbrev pub entries_in : RawSetup → History → List Entry
entries_in setup h = entries_of h.past ++ journal_of setup h

-- the ECU now
abbrev pub ecu_of : RawSetup → History → State
ecu_of setup h = after h.opened (journal_of setup h)

-- the frames that a tester is sent
abbrev pub sent_in : RawSetup → History → ℕ → List Sent
sent_in setup h t = sent_by setup h.events (timed_of setup h) t

-- ---- a call more

-- the frames that a tester is sent with the later history and not with the earlier
abbrev pub frames_more : RawSetup → History → History → ℕ → List Drawn
frames_more setup h next t = map (drawn_for t) (drop (length (sent_in setup h t)) (sent_in setup next t))

-- those of all testers, in the order of the bus: the earlier time first, at one time the testers in order, of one tester as
-- drawn
abbrev pub all_more : RawSetup → History → History → List Drawn
all_more setup h next = in_order time_of (flat_map (frames_more setup h next) (counted_from 1 (length setup.testers)))

-- a moment more, and the frame then, but for what is sent
abbrev pub gone_on : RawSetup → History → ℕ → Option Frame → History
gone_on setup h moment frame = record {
  opened = h.opened;
  past = h.past;
  events = h.events ++ said_gives setup (reference_of h.clock) (Stamped moment frame);
  clock = Some (clock_at h.clock moment);
  sent = h.sent;
}

-- a moment more, and the frame then: what is sent is what the testers' flow control draws then
abbrev pub taken : RawSetup → History → ℕ → Option Frame → History
taken setup h moment frame = record {
  opened = h.opened;
  past = h.past;
  events = h.events ++ said_gives setup (reference_of h.clock) (Stamped moment frame);
  clock = Some (clock_at h.clock moment);
  sent = h.sent ++ all_more setup h (gone_on setup h moment frame);
}

-- the ECU is set to this, behind all entries so far
abbrev pub set_to : RawSetup → History → State → History
set_to setup h ecu = record {
  opened = ecu;
  past = timed_of setup h;
  events = h.events;
  clock = h.clock;
  sent = h.sent;
}

abbrev pub value_set : State → ℕ → List ℕ → State
value_set s id value = record s { dids = with_value s.dids id value }

abbrev pub status_set : State → ℕ → ℕ → State
status_set s code status = record s { dtcs = with_status s.dtcs code status }

abbrev pub next_of : RawSetup → History → Call → History
next_of setup h (At moment frame) = taken setup h moment frame
next_of setup h (SetValue id value) = set_to setup h (value_set (ecu_of setup h) id value)
next_of setup h (SetStatus code status) = set_to setup h (status_set (ecu_of setup h) code status)

-- ---- all calls

abbrev pub beginning : RawSetup → History
beginning setup = record { opened = opening setup; past = []; events = []; clock = None; sent = [] }

abbrev pub history_after : RawSetup → History → List Call → History
history_after setup h [] = h
history_after setup h (call ∷ calls) = history_after setup (next_of setup h call) calls

-- what the calls have made
abbrev pub history : RawSetup → List Call → History
history setup calls = history_after setup (beginning setup) calls
