-- A log of a tester's link: its lines, the events that they give, and the first fault in the order of the lines.
use Rattle.std.specs.Prelude.{ℕ, ◌+◌, ◌-◌, ◌/◌, ◌%◌, ◌==◌, nat_le, nat_lt, max, Bool, if◌then◌else◌, List, [], ◌∷◌, ◌++◌, length, take, replicate, Option, Some, None, Result, Ok, Err}
use Rattle.std.specs.Option.{option_or}
use Rattle.std.specs.List.{ends_with, filter_map, reduce, slice_split}
use Rattle.diag_can.specs.Line.{line_event, frame_moment}
use Rattle.diag_can.specs.declared.fault.LineFault.{LineFault}
use Rattle.diag_can.specs.declared.fault.LogFault.{LogFault}
use Rattle.diag_can.specs.declared.fault.LogFault.TheVariants.{Line, TooManyLines, TooManyEvents}
use Rattle.diag_can.specs.declared.frame.Ids.{Ids}
use Rattle.diag_can.specs.Event.{Event, Ticks}
use Rattle.diag_can.specs.declared.log.Timing.{Timing}
use Rattle.diag_can.specs.declared.log.Timing.TheVariants.{Stamps}

-- the most lines of a log, and the most events
abbrev pub most_lines : ℕ
most_lines = 1000000

abbrev pub most_events : ℕ
most_events = 1000000

-- ---- lines

-- one carriage return at the end of a line is dropped
abbrev pub without_return : List ℕ → List ℕ
without_return line = if ends_with ◌==◌ line (13 ∷ []) then take (length line - 1) line else line

abbrev pub is_feed : ℕ → Bool
is_feed c = c == 10

-- the lines in the pieces between line feeds: an empty last piece is no line
abbrev pub lines_of_pieces : List (List ℕ) → List (List ℕ)
lines_of_pieces [] = []
lines_of_pieces (piece ∷ []) = if length piece == 0 then [] else without_return piece ∷ []
lines_of_pieces (piece ∷ next ∷ pieces) = without_return piece ∷ lines_of_pieces (next ∷ pieces)

abbrev pub lines_of : List ℕ → List (List ℕ)
lines_of text = lines_of_pieces (slice_split is_feed text)

-- ---- time

-- the greatest moment among the lines that gave the tester a frame
abbrev pub reference : Ids → List (List ℕ) → Option ℕ
reference ids lines = reduce max (filter_map (frame_moment ids) lines)

-- the milliseconds before a line's event: from the reference to a later moment, where stamps carry time
abbrev pub silence : Timing → Option ℕ → Option ℕ → ℕ
silence Stamps (Some reference) (Some moment) = moment - reference
silence _ _ _ = 0

-- that much time: 60000 ticks each, and last the rest
abbrev pub waited : ℕ → List Event
waited ms = replicate (ms / 60000) (Ticks 60000)
    ++ (if ms % 60000 == 0 then [] else Ticks (ms % 60000) ∷ [])

-- ---- events

abbrev pub event_list : Result (Option Event) LineFault → List Event
event_list (Ok (Some event)) = event ∷ []
event_list _ = []

-- what a line gives where this is the reference
abbrev pub line_gives : Timing → Option ℕ → Ids → List ℕ → List Event
line_gives timing reference ids line =
    waited (silence timing reference (frame_moment ids line)) ++ event_list (line_event line ids)

-- what the lines give, each after those before it
abbrev pub events_after : Timing → Ids → List (List ℕ) → List (List ℕ) → List Event
events_after timing ids past [] = []
events_after timing ids past (line ∷ lines) = line_gives timing (reference ids past) ids line
    ++ events_after timing ids (past ++ line ∷ []) lines

-- ---- faults

-- what is at fault at the line of this number, with which there are so many events
abbrev pub line_fault : ℕ → Result (Option Event) LineFault → ℕ → Option LogFault
line_fault number (Err fault) count = Some (Line number fault)
line_fault number (Ok event) count = if nat_lt most_events count then Some TooManyEvents else None

-- what is at fault at the line after these
abbrev pub fault_after : Timing → Ids → List (List ℕ) → List ℕ → Option LogFault
fault_after timing ids past line =
    if nat_le most_lines (length past) then Some TooManyLines
    else line_fault (length past + 1) (line_event line ids)
    (length (events_after timing ids [] (past ++ line ∷ [])))

abbrev pub first_fault : Timing → Ids → List (List ℕ) → List (List ℕ) → Option LogFault
first_fault timing ids past [] = None
first_fault timing ids past (line ∷ lines) =
    option_or (fault_after timing ids past line) (first_fault timing ids (past ++ line ∷ []) lines)

-- ---- logs

abbrev pub unless_fault : List Event → Option LogFault → Result (List Event) LogFault
unless_fault events None = Ok events
unless_fault events (Some fault) = Err fault

abbrev pub log_events : Timing → Ids → List (List ℕ) → Result (List Event) LogFault
log_events timing ids lines =
    unless_fault (events_after timing ids [] lines) (first_fault timing ids [] lines)

-- the events of a log, or its first fault
unfoldable pub events : List ℕ → Ids → Timing → Result (List Event) LogFault
events text ids timing = log_events timing ids (lines_of text)
