-- The events of a capture: an interleaving of the testers' events, in the bus's own order.
use Rattle.std.specs.Prelude.{◌≡◌, ◌≤◌, ℕ, ◌+◌, max, nat_lt, if◌then◌else◌, List, [], ◌∷◌, ◌++◌, length, Option, Some, None, Result, Ok, Err}
use Rattle.std.specs.List.{filter_map, flat_map, reduce}
use Rattle.std.specs.Option.{option_to_list}
use Rattle.diag_can.specs.BusLine.{bus_line, bus_lines}
use Rattle.diag_can.specs.Line.{frame_for}
use Rattle.diag_can.specs.Log.{silence, waited}
use Rattle.diag_can.specs.declared.bus_line.BusLine.{BusLine}
use Rattle.diag_can.specs.declared.bus_line.BusLine.TheVariants.{Empty, Ticks, Stamped}
use Rattle.diag_can.specs.declared.fault.LineFault.{LineFault}
use Rattle.diag_can.specs.Event.{Event}
use Rattle.diag_can.specs.Event as event
use Rattle.diag_can.specs.declared.frame.Frame.{Frame}
use Rattle.diag_can.specs.declared.log.Timing.TheVariants.{Stamps}
use Rattle.diag_setup.specs.declared.raw.RawSetup.{RawSetup}
use Rattle.diag_setup.specs.Setup.{ids_of, known_ids}
use Rattle.diag_pdu.specs.Cut.{counted_from}
use Rattle.diag_tp.specs.Moments.{last_time}
use Rattle.diag_world.specs.Server.{closing_time, each_of}
use Rattle.diag_world.specs.Weaving.{all_by, items_of}
use Rattle.diag_bus.specs.declared.fault.BusFault.{BusFault}
use Rattle.diag_bus.specs.declared.fault.BusFault.TheVariants.{Line, Late}

-- what a line says to a unit with this setup: its testers' identifiers of 29 bits are read, and frames of CAN FD of those testers
-- that talk by it
abbrev pub line_said : RawSetup → List ℕ → Result BusLine LineFault
line_said setup line = bus_line (known_ids setup) line

-- ---- time

abbrev pub moment_said : Result BusLine LineFault → Option ℕ
moment_said (Ok (Stamped moment frame)) = Some moment
moment_said _ = None

-- the greatest moment of the stamped lines
abbrev pub reference : RawSetup → List (List ℕ) → Option ℕ
reference setup lines = reduce max (filter_map (λ line. moment_said (line_said setup line)) lines)

-- the time that a line gives where this is the reference
abbrev pub time_said : Option ℕ → BusLine → List Event
time_said reference Empty = []
time_said reference (Ticks count) = event.Ticks count ∷ []
time_said reference (Stamped moment frame) = waited (silence Stamps reference (Some moment))

-- ---- events

-- what a frame is to a tester
abbrev pub frame_to : RawSetup → Option Frame → ℕ → List (ℕ × Event)
frame_to setup frame t = all_by t (option_to_list (frame_for (ids_of setup t) frame))

abbrev pub frame_said : BusLine → Option Frame
frame_said Empty = None
frame_said (Ticks count) = None
frame_said (Stamped moment frame) = frame

-- what a line gives: its time to each tester, and then its frame to each tester that it is for
abbrev pub said_gives : RawSetup → Option ℕ → BusLine → List (ℕ × Event)
said_gives setup reference said =
    flat_map (each_of (length setup.testers)) (time_said reference said)
    ++ flat_map (frame_to setup (frame_said said)) (counted_from 1 (length setup.testers))

abbrev pub gives_if_well : RawSetup → Option ℕ → Result BusLine LineFault → List (ℕ × Event)
gives_if_well setup reference (Ok said) = said_gives setup reference said
gives_if_well setup reference (Err fault) = []

-- what a line gives after these lines
abbrev pub line_events : RawSetup → List (List ℕ) → List ℕ → List (ℕ × Event)
line_events setup past line = gives_if_well setup (reference setup past) (line_said setup line)

abbrev pub events_after : RawSetup → List (List ℕ) → List (List ℕ) → List (ℕ × Event)
events_after setup past [] = []
events_after setup past (line ∷ lines) =
    line_events setup past line ++ events_after setup (past ++ line ∷ []) lines

-- what the lines give
abbrev pub events_of : RawSetup → List (List ℕ) → List (ℕ × Event)
events_of setup lines = events_after setup [] lines

-- ---- faults

-- the milliseconds that a line gives where this is the reference
abbrev pub span_said : Option ℕ → Result BusLine LineFault → ℕ
span_said reference (Ok Empty) = 0
span_said reference (Ok (Ticks count)) = count
span_said reference (Ok (Stamped moment frame)) = silence Stamps reference (Some moment)
span_said reference (Err fault) = 0

abbrev pub clock_after : RawSetup → List (List ℕ) → List (List ℕ) → ℕ
clock_after setup past [] = 0
clock_after setup past (line ∷ lines) =
    span_said (reference setup past) (line_said setup line) + clock_after setup (past ++ line ∷ []) lines

-- what each tester's clock tells after these lines
abbrev pub clock_of : RawSetup → List (List ℕ) → ℕ
clock_of setup lines = clock_after setup [] lines

abbrev pub fault_said : Result BusLine LineFault → ℕ → Option BusFault
fault_said (Err fault) clock = Some (Line fault)
fault_said (Ok said) clock = if nat_lt closing_time clock then Some Late else None

-- the fault of a line after these: it says nothing, or by it a tester's clock would pass the closing time
abbrev pub line_fault : RawSetup → List (List ℕ) → List ℕ → Option BusFault
line_fault setup past line =
    fault_said (line_said setup line) (clock_of setup past + span_said (reference setup past) (line_said setup line))

abbrev pub fault_or : Option BusFault → ℕ → Option (ℕ × BusFault) → Option (ℕ × BusFault)
fault_or (Some fault) n others = Some (n, fault)
fault_or None n others = others

abbrev pub first_fault_after : RawSetup → List (List ℕ) → ℕ → List (List ℕ) → Option (ℕ × BusFault)
first_fault_after setup past n [] = None
first_fault_after setup past n (line ∷ lines) =
    fault_or (line_fault setup past line) n (first_fault_after setup (past ++ line ∷ []) (n + 1) lines)

-- the first line at fault, by its number from 1
abbrev pub first_fault : RawSetup → List (List ℕ) → Option (ℕ × BusFault)
first_fault setup lines = first_fault_after setup [] 1 lines

abbrev pub unless_fault : {A : Type 0} → A → Option (ℕ × BusFault) → Result A (ℕ × BusFault)
unless_fault x None = Ok x
unless_fault x (Some fault) = Err fault

-- the events of a capture, or its first line at fault
abbrev pub bus_events : List ℕ → RawSetup → Result (List (ℕ × Event)) (ℕ × BusFault)
bus_events text setup = unless_fault (events_of setup (bus_lines text)) (first_fault setup (bus_lines text))

-- each tester's clock tells the time that its events have
abbrev pub ClocksLaw : Type 0
ClocksLaw = (setup : RawSetup) (lines : List (List ℕ)) (t : ℕ)
    → 1 ≤ t
    → t ≤ length setup.testers
    → last_time (items_of (events_of setup lines) t) ≡ clock_of setup lines
