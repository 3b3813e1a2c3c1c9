-- The moment of a stamp of the usual form: ten digits of seconds and six of the fraction.
use Rattle.std.specs.Prelude.{ℕ, ◌≤◌, List, length, take, drop}
use Rattle.diag_can.specs.Lanes.{IsRunIn}
use Rattle.diag_can.specs.Stamp.{is_digit, moment_of}

-- the line begins with a stamp of that form
pub record HasUsualStamp (line : List ℕ) : Type 0 where
  pub long : 22 ≤ length line
  pub seconds : IsRunIn is_digit line 1 16 10
  pub fraction : IsRunIn is_digit line 12 8 6

-- its moment
abbrev pub usual_moment : List ℕ → ℕ
usual_moment line = moment_of (take 10 (drop 1 line)) (take 6 (drop 12 line))
