-- Where reading a log takes memory: where a line gives an event that has room.
use Rattle.std.specs.Prelude.{◌≡◌, ◌≢◌, ◌<◌, ℕ, List, [], ◌∷◌, ◌++◌, length, None}
use Rattle.diag_can.specs.Log.{events_after, first_fault, line_gives, lines_of, most_events, most_lines, reference}
use Rattle.diag_can.specs.declared.frame.Ids.{Ids}
use Rattle.diag_can.specs.declared.log.Timing.{Timing}

-- the line after these gives something (a line that can't be read gives nothing), and one event more has room
pub record GivesMore (timing : Timing) (ids : Ids) (past : List (List ℕ)) (line : List ℕ) : Type 0 where
  pub lines : length past < most_lines
  pub room : length (events_after timing ids [] past) < most_events
  pub gives : line_gives timing (reference ids past) ids line ≢ []

-- a line of the text does so, before which no line is at fault
pub record HasEvent (timing : Timing) (ids : Ids) (text : List ℕ) : Type 0 where
  pub past : List (List ℕ)
  pub line : List ℕ
  pub rest : List (List ℕ)
  pub lines : lines_of text ≡ past ++ line ∷ rest
  pub well : first_fault timing ids [] past ≡ None
  pub more : GivesMore timing ids past line
