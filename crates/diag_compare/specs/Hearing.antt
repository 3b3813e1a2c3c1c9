-- What a capture has of the unit's messages to a tester, and of the tester's requests, in the order of the bus.
use Rattle.std.specs.Prelude.{ℕ, ◌+◌, ◌==◌, Bool, if◌then◌else◌, List, [], ◌∷◌, ◌++◌, length, drop, filter, Option, Some, None, Result, Ok, Err}
use Rattle.std.specs.List.{flat_map}
use Rattle.diag_can.specs.declared.bus_line.BusLine.{BusLine}
use Rattle.diag_can.specs.declared.fault.LineFault.{LineFault}
use Rattle.diag_can.specs.Event.{Event, Physical}
use Rattle.diag_can.specs.declared.frame.Frame.{Frame}
use Rattle.diag_pdu.specs.declared.setup.LinkSetup.{LinkSetup}
use Rattle.diag_pdu.specs.declared.step.Step.{Step}
use Rattle.diag_pdu.specs.declared.step.Step.TheVariants as step
use Rattle.diag_setup.specs.Setup.{ids_of, link_of}
use Rattle.diag_setup.specs.declared.raw.RawSetup.{RawSetup}
use Rattle.diag_ecu.specs.State.{State}
use Rattle.diag_desk.specs.Legal.{after_step}
use Rattle.diag_desk.specs.declared.entry.Entry.{Entry}
use Rattle.diag_bus.specs.Events.{clock_of, events_of, frame_said, line_said, reference, time_said}
use Rattle.diag_bus.specs.Text.{ecu_after, run_of}
use Rattle.diag_exchange.specs.declared.happening.Expected.{Expected}
use Rattle.diag_exchange.specs.declared.happening.Happening.{Happening}
use Rattle.diag_exchange.specs.declared.happening.Happening.TheVariants.{Asked}
use Rattle.diag_exchange.specs.declared.happening.CaptureLine.{CaptureLine}
use Rattle.diag_listen.specs.Listening.{all_happen}

-- the line behind these, and the bus's time of it
abbrev pub capture_line_of : RawSetup → List (List ℕ) → List ℕ → CaptureLine
capture_line_of setup past line = record { number = length past + 1; moment = clock_of setup (past ++ line ∷ []) }

-- ---- the unit's side

-- a listener takes the longest message, and doesn't judge times
abbrev pub unit_side : RawSetup → ℕ → LinkSetup
unit_side setup t = record (link_of setup t) { max_request = 65535; n_cr = 60000 }

abbrev pub time_of_line : RawSetup → List (List ℕ) → Result BusLine LineFault → List Event
time_of_line setup past (Ok said) = time_said (reference setup past) said
time_of_line setup past (Err fault) = []

abbrev pub frame_with : ℕ → Option Frame → List Event
frame_with id None = []
frame_with id (Some frame) = if frame.id == id then Physical frame.bytes ∷ [] else []

-- a frame of the unit to a tester
abbrev pub unit_frame : RawSetup → ℕ → Result BusLine LineFault → List Event
unit_frame setup t (Ok said) = frame_with (ids_of setup t).response (frame_said said)
unit_frame setup t (Err fault) = []

abbrev pub unit_after : RawSetup → ℕ → List (List ℕ) → List (List ℕ) → List Event
unit_after setup t past [] = []
unit_after setup t past (line ∷ lines) =
    time_of_line setup past (line_said setup line) ++ unit_frame setup t (line_said setup line)
    ++ unit_after setup t (past ++ line ∷ []) lines

-- the events of the unit's side
abbrev pub unit_events : RawSetup → ℕ → List (List ℕ) → List Event
unit_events setup t lines = unit_after setup t [] lines

-- ---- requests

-- each entry with the state before it
abbrev pub in_states : State → List Entry → List (State × Entry)
in_states s [] = []
in_states s (e ∷ entries) = (s, e) ∷ in_states (after_step s e.who e.step) entries

-- the entries of the journal that a line gives
abbrev pub entries_by : RawSetup → List (List ℕ) → List ℕ → List (State × Entry)
entries_by setup past line = in_states (ecu_after setup past)
    (drop (length (run_of setup (events_of setup past))) (run_of setup (events_of setup (past ++ line ∷ []))))

abbrev pub is_of : ℕ → State × Entry → Bool
is_of t e = e.1.who == t

abbrev pub asks : CaptureLine → Step → Expected → List Happening
asks at (step.Request request) expected = Asked (record {
  at = at;
  functional = request.functional;
  bytes = request.message;
  expected = expected;
}) ∷ []
asks at (step.Ticks n) expected = []

-- ---- both

-- `expects` says what the server makes of a request, and how it is compared
module _ (expects : State → Entry → Expected) (setup : RawSetup) (t : ℕ) where
  abbrev pub entry_happens : CaptureLine → State × Entry → List Happening
  entry_happens at e = asks at e.1.step (expects e.0 e.1)

  -- what a line is to a tester: what ends by its time, the request that it completes, and what its frame is to a message
  abbrev pub line_happens : List (List ℕ) → List ℕ → List Happening
  line_happens past line =
      let at = capture_line_of setup past line in
      let E = unit_events setup t past in
      let time = time_of_line setup past (line_said setup line) in
      all_happen (unit_side setup t) at E time
      ++ flat_map (entry_happens at) (filter (is_of t) (entries_by setup past line))
      ++ all_happen (unit_side setup t) at (E ++ time) (unit_frame setup t (line_said setup line))

  abbrev pub happen_after : List (List ℕ) → List (List ℕ) → List Happening
  happen_after past [] = []
  happen_after past (line ∷ lines) = line_happens past line ++ happen_after (past ++ line ∷ []) lines

  -- what the lines are to a tester
  abbrev pub happenings : List (List ℕ) → List Happening
  happenings lines = happen_after [] lines
