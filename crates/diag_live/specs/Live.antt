-- A live run's capture: the lines that were heard, with one and the same stamp, and between them the ticks of the clock.
use Rattle.diag_can.specs.declared.frame.KnownId.{KnownId}
use Rattle.std.specs.Prelude.{◌≡◌, ◌≤◌, ℕ, ◌/◌, ◌%◌, ◌==◌, Bool, replicate, codes, decimal, if◌then◌else◌, All, List, [], ◌∷◌, ◌++◌, map, Option, Some, None, Ok}
use Rattle.std.specs.List.{after_first, filter_map, flat_map}
use Rattle.diag_can.specs.BusLine.{HasNoFeed, bus_line, bus_lines}
use Rattle.diag_can.specs.declared.bus_line.BusLine.{BusLine}
use Rattle.diag_can.specs.declared.bus_line.BusLine.TheVariants.{Empty, Ticks, Stamped}

-- ---- a line as the capture has it

-- the stamp of each line of the capture, which says nothing of the time
abbrev pub null_stamp : List ℕ
null_stamp = codes "(0.000000)"

abbrev pub is_close : ℕ → Bool
is_close c = c == 41

-- a line with the null stamp in place of its own; one without a stamp as it is
abbrev pub restamped : List ℕ → List ℕ
restamped [] = []
restamped (c ∷ line) = if c == 40 then null_stamp ++ after_first is_close line else c ∷ line

-- so many ticks as a line
abbrev pub tick_line : ℕ → List ℕ
tick_line count = codes "tick " ++ decimal count

-- what a line says but for its moment
abbrev pub but_for_moment : BusLine → BusLine
but_for_moment Empty = Empty
but_for_moment (Ticks count) = Ticks count
but_for_moment (Stamped moment frame) = Stamped 0 frame

-- Whichever identifiers are read: a line that says something says the same with the null stamp, but for its moment, which is 0; and a line of ticks says
-- that they pass. Neither has a line feed that wasn't there.
pub record RestampLaw : Type 0 where
  pub says : (known : List KnownId) (line : List ℕ) (said : BusLine) → bus_line known line ≡ Ok said
      → bus_line known (restamped line) ≡ Ok (but_for_moment said)
  pub ticks : (known : List KnownId) (count : ℕ) → 1 ≤ count → count ≤ 60000
      → bus_line known (tick_line count) ≡ Ok (Ticks count)
  pub plain : (line : List ℕ) → HasNoFeed line → HasNoFeed (restamped line)
  pub plain_ticks : (count : ℕ) → count ≤ 60000 → HasNoFeed (tick_line count)

-- ---- what was taken

-- a line that was heard, or ticks of the clock
pub data Taken : Type 0 where
  Heard : List ℕ → Taken
  Ticked : ℕ → Taken

abbrev pub capture_line : Taken → List ℕ
capture_line (Heard bytes) = restamped bytes
capture_line (Ticked count) = tick_line count

-- the capture of what was taken
abbrev pub capture_of : List Taken → List (List ℕ)
capture_of taken = map capture_line taken

abbrev pub heard_line : Taken → Option (List ℕ)
heard_line (Heard bytes) = Some bytes
heard_line (Ticked count) = None

-- the lines of it that were heard
abbrev pub lines_of : List Taken → List (List ℕ)
lines_of taken = filter_map heard_line taken

-- these identifiers are read that are passed over otherwise
module _ (known : List KnownId) where
  -- a line that was heard is one line and says something; of the clock's ticks there are at least 1 and at most 60000
  abbrev pub IsGood : Taken → Type 0
  IsGood (Heard bytes) = HasNoFeed bytes × ((said : BusLine) × (bus_line known bytes ≡ Ok said))
  IsGood (Ticked count) = (1 ≤ count) × (count ≤ 60000)

  abbrev pub AreGood : List Taken → Type 0
  AreGood [] = Unit {0}
  AreGood (first ∷ taken) = IsGood first × AreGood taken

-- so much time: 60000 ticks each, and last the rest
abbrev pub passed : ℕ → List Taken
passed span = replicate (span / 60000) (Ticked 60000)
    ++ (if span % 60000 == 0 then [] else Ticked (span % 60000) ∷ [])

-- ---- the record

abbrev pub with_feed : List ℕ → List ℕ
with_feed text = text ++ 10 ∷ []

-- the text of these lines, each with its line feed
abbrev pub record_text : List (List ℕ) → List ℕ
record_text lines = flat_map with_feed lines

-- the lines of the text of these lines are these
abbrev pub RecordLaw : Type 0
RecordLaw = (lines : List (List ℕ)) → All HasNoFeed lines → bus_lines (record_text lines) ≡ lines
