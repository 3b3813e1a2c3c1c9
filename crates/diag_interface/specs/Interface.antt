-- A recording of several interfaces, of which only the frames of one count: a line of another one tells its time and nothing else.
use Rattle.std.specs.Prelude.{◌≡◌, ℕ, ◌==◌, Bool, true, false, not, ◌&&◌, if◌then◌else◌, codes, List, [], ◌++◌, drop, map, Option, None, Result, Ok}
use Rattle.std.specs.List.{after_first, before_first, join_with_byte, prefix_len, slice_split, take_while}
use lib.Pointwise.{pointwise}
use Rattle.diag_can.specs.BusLine.{bus_line, bus_lines}
use Rattle.diag_can.specs.Log.{is_feed}
use Rattle.diag_can.specs.Stamp.{is_no_space, is_space}
use Rattle.diag_can.specs.declared.bus_line.BusLine.{BusLine}
use Rattle.diag_can.specs.declared.bus_line.BusLine.TheVariants.{Stamped}
use Rattle.diag_can.specs.declared.fault.LineFault.{LineFault}
use Rattle.diag_can.specs.declared.frame.Frame.{Frame}
use Rattle.diag_can.specs.declared.frame.KnownId.{KnownId}

-- ---- a line

abbrev pub is_close : ℕ → Bool
is_close c = c == 41

abbrev pub behind_spaces : List ℕ → List ℕ
behind_spaces text = drop (prefix_len is_space text) text

-- the interface's name: what stands behind the stamp and spaces, up to a space
abbrev pub interface_of : List ℕ → List ℕ
interface_of line = take_while is_no_space (behind_spaces (after_first is_close line))

abbrev pub is_stamped : Result BusLine LineFault → Bool
is_stamped (Ok (Stamped moment frame)) = true
is_stamped _ = false

-- a line that tells the time, and is of another interface
abbrev pub is_other : List ℕ → List ℕ → Bool
is_other name line = not (pointwise ◌==◌ (interface_of line) name) && is_stamped (bus_line [] line)

-- its stamp, and behind that a remote frame, which is passed over
abbrev pub time_alone : List ℕ → List ℕ
time_alone line = before_first is_close line ++ codes ") other 000#R"

-- every other line, one at fault too, stays as it is
abbrev pub only_line : List ℕ → List ℕ → List ℕ
only_line name line = if is_other name line then time_alone line else line

-- ---- a recording

-- the text of a recording where only the frames of the interface of this name count
abbrev pub only_text : List ℕ → List ℕ → List ℕ
only_text name text = join_with_byte 10 (map (only_line name) (slice_split is_feed text))

-- The lines of that text are those of the recording, one for one, so each keeps its number. And one of another interface tells
-- its time and no frame, whichever identifiers are read.
pub record InterfaceLaw : Type 0 where
  pub lines : (name text : List ℕ) → bus_lines (only_text name text) ≡ map (only_line name) (bus_lines text)
  pub time : (known : List KnownId) (line : List ℕ) (moment : ℕ) (frame : Option Frame) → bus_line [] line ≡ Ok (Stamped moment frame)
      → bus_line known (time_alone line) ≡ Ok (Stamped moment None)
