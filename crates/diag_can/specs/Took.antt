-- How a line that is taken makes more of what was read.
use Rattle.std.specs.Prelude.{◌≡◌, ℕ, ◌≤◌, List, ◌++◌, length, Option, None}
use Rattle.diag_can.specs.Line.{line_event, frame_moment}
use Rattle.diag_can.specs.Log.{event_list, most_events}
use Rattle.diag_can.specs.Reading.{later, fault_with, given_at}
use Rattle.diag_can.specs.Event.{Event}
use Rattle.diag_can.specs.declared.frame.Ids.{Ids}
use Rattle.diag_can.specs.declared.log.Reading.{Reading}
use Rattle.diag_can.specs.declared.log.Timing.{Timing}
use Rattle.diag_can.specs.declared.log.Timing.TheVariants.{Stamps}

-- what is given at a moment stands behind what was read; the reference is kept where stamps carry time
pub record Grown (timing : Timing) (old new : Reading) (moment : Option ℕ) (event : List Event) : Type 0 where
  pub events : new.events.items ≡ old.events.items ++ given_at timing old.reference moment event
  pub reference : timing ≡ Stamps → new.reference ≡ later old.reference moment
  pub few : length new.events.items ≤ most_events

-- the line was taken, and is well
pub record Took (timing : Timing) (ids : Ids) (old new : Reading) (line : List ℕ) : Type 0 where
  pub grown : Grown timing old new (frame_moment ids line) (event_list (line_event line ids))
  pub well : (number : ℕ) → fault_with timing ids old.events.items old.reference number line ≡ None
