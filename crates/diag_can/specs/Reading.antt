-- What one line does to the events read so far and to the reference.
use Rattle.std.specs.Prelude.{ℕ, max, List, ◌++◌, length, Option, Some, None}
use Rattle.diag_can.specs.Line.{line_event}
use Rattle.diag_can.specs.Log.{line_gives, line_fault, silence, waited}
use Rattle.diag_can.specs.declared.fault.LogFault.{LogFault}
use Rattle.diag_can.specs.declared.frame.Ids.{Ids}
use Rattle.diag_can.specs.Event.{Event}
use Rattle.diag_can.specs.declared.log.Timing.{Timing}

-- the greater of two moments, as far as there are any
abbrev pub later : Option ℕ → Option ℕ → Option ℕ
later None moment = moment
later (Some reference) None = Some reference
later (Some reference) (Some moment) = Some (max reference moment)

-- what is at fault at the line of this number, where these events stand before it
abbrev pub fault_with : Timing → Ids → List Event → Option ℕ → ℕ → List ℕ → Option LogFault
fault_with timing ids events reference number line = line_fault number (line_event line ids)
    (length (events ++ line_gives timing reference ids line))

-- an event, if any, and before it the time up to its moment
abbrev pub given_at : Timing → Option ℕ → Option ℕ → List Event → List Event
given_at timing reference moment event = waited (silence timing reference moment) ++ event
