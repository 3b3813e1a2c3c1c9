-- What a reader has read of a log.
use Rattle.std.specs.Prelude.{◌≡◌, ◌≢◌, ℕ, ◌≤◌, List, [], ◌++◌, length, None, Some, Err}
use Rattle.diag_can.specs.BusLine.{begun_line}
use Rattle.diag_can.specs.Log.{lines_of, reference, events_after, first_fault, events, most_events}
use Rattle.diag_can.specs.declared.fault.LogFault.{LogFault}
use Rattle.diag_can.specs.declared.fault.LogFault.TheVariants.{Memory}
use Rattle.diag_can.specs.declared.frame.Ids.{Ids}
use Rattle.diag_can.specs.declared.log.Timing.{Timing}
use Rattle.diag_can.specs.declared.log.Timing.TheVariants.{Stamps}
use Rattle.diag_can.specs.declared.log_reader.LogReader.{LogReader}

-- these lines were read, and none of them is at fault
pub record AreRead (ids : Ids) (timing : Timing) (r : LogReader) (lines : List (List ℕ)) : Type 0 where
  pub well : first_fault timing ids [] lines ≡ None
  pub count : r.lines ≡ length lines
  pub events_are : r.reading.events.items ≡ events_after timing ids [] lines
  pub reference_is : timing ≡ Stamps → r.reading.reference ≡ reference ids lines
  pub few : length r.reading.events.items ≤ most_events

-- these are whole lines, which were read
pub record HasLines (ids : Ids) (timing : Timing) (r : LogReader) (seen : List ℕ) : Type 0 where
  pub whole : begun_line seen ≡ []
  pub read : AreRead ids timing r (lines_of seen)

-- these whole lines were taken: they are well, or the first fault is known, whatever follows them
pub record HasRead (ids : Ids) (timing : Timing) (r : LogReader) (seen : List ℕ) : Type 0 where
  pub well : r.fault ≡ None → HasLines ids timing r seen
  pub fault : (fault : LogFault) → r.fault ≡ Some fault → (more : List ℕ) → events (seen ++ more) ids timing ≡ Err fault
  pub told : r.fault ≢ Some Memory
