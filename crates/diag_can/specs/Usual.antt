-- Lines of the usual form: ten digits of seconds and six of the fraction, and nothing but the frame's digits behind its `#`.
use Rattle.std.specs.Prelude.{◌≡◌, ◌⊎◌, ℕ, ◌+◌, ◌-◌, ◌*◌, ◌/◌, ◌%◌, ◌≤◌, ◌<◌, List, ◌∷◌, ◌++◌, length, take, drop, slice_index, Some, true, false}
use Rattle.hex.specs.Hex.{is_hex_digit}
use Rattle.diag_can.specs.FrameText.{last_bytes}
use Rattle.diag_can.specs.MomentText.{usual_moment}
use Rattle.diag_can.specs.Stamp.{is_digit}
use Rattle.diag_can.specs.Line.{is_time, stamped_frame}
use Rattle.diag_can.specs.BusLine.{HasNoFeed}
use Rattle.diag_can.specs.Lanes.{IsRunIn}
use Rattle.diag_can.specs.declared.frame.Frame.{Frame}

-- three bytes from a place on, weighed as digits are
abbrev pub three_at : List ℕ → ℕ → ℕ
three_at line i = slice_index line i * 100 + slice_index line (i + 1) * 10 + slice_index line (i + 2)

-- the line has a stamp of that form and a name, and there the frame's text
pub record IsFramed (line : List ℕ) (place : ℕ) : Type 0 where
  pub long : 22 ≤ length line
  pub inside : place < length line
  pub seconds : IsRunIn is_digit line 1 16 10
  pub fraction : IsRunIn is_digit line 12 8 6
  pub is_frame : is_time line ≡ false
  pub stamped : stamped_frame line ≡ Some (usual_moment line, drop place line)

-- the front of a text is that of such a line, however long it is
pub record BeginsFramed (text : List ℕ) (place : ℕ) : Type 0 where
  pub long : 28 ≤ length text
  pub after : 22 ≤ place
  pub before : place < 28
  pub plain : HasNoFeed (take place text)
  pub framed : (n : ℕ) → place < n → n ≤ length text → IsFramed (take n text) place

-- in front of a line's end the text has this line, which has nothing but pairs of up to sixteen hex digits from a place on, and this
-- behind the end
pub record HasDigits (text line after : List ℕ) (at : ℕ) : Type 0 where
  pub inside : at ≤ length line
  pub few : length line ≤ at + 16
  pub even : (length line - at) % 2 ≡ 0
  pub digits : (k : ℕ) → at ≤ k → k < length line → is_hex_digit (slice_index line k) ≡ true
  pub ends : (text ≡ line ++ 10 ∷ after) ⊎ (text ≡ line ++ 13 ∷ 10 ∷ after)

-- behind an identifier of three digits at this place, a text has a second mark, and so many hex digits behind one of flags
pub record HasFdDigits (text : List ℕ) (place count : ℕ) : Type 0 where
  pub inside : place + 6 + count ≤ length text
  pub few : count ≤ 128
  pub second : slice_index text (place + 4) ≡ 35
  pub digits : (k : ℕ) → place + 5 ≤ k → k < place + 6 + count → is_hex_digit (slice_index text k) ≡ true

-- such a line: at this place its frame's text begins, with so many digits of its identifier and a `#`, and ends in up to sixteen
-- hex digits, which are pairs
pub record IsUsual (line : List ℕ) (place width : ℕ) : Type 0 where
  pub framed : IsFramed line place
  pub inside : place + width + 1 ≤ length line
  pub few : length line ≤ place + width + 17
  pub even : (length line - (place + width + 1)) % 2 ≡ 0
  pub id : (k : ℕ) → place ≤ k → k < place + width → is_hex_digit (slice_index line k) ≡ true
  pub mark : slice_index line (place + width) ≡ 35
  pub digits : (k : ℕ) → place + width + 1 ≤ k → k < length line → is_hex_digit (slice_index line k) ≡ true

-- its frame, with this identifier
abbrev pub usual_frame : List ℕ → ℕ → ℕ → ℕ → Frame
usual_frame line place width id = record { id = id; bytes = last_bytes line ((length line - (place + width + 1)) / 2) }

-- a line of CAN FD with such a stamp and name: at this place its frame's text begins, with three digits of its identifier and two
-- marks, and ends in hex digits: one of flags, and up to 128 more
pub record IsFd (line : List ℕ) (place : ℕ) : Type 0 where
  pub framed : IsFramed line place
  pub inside : place + 6 ≤ length line
  pub few : length line ≤ place + 134
  pub id : (k : ℕ) → place ≤ k → k < place + 3 → is_hex_digit (slice_index line k) ≡ true
  pub mark : slice_index line (place + 3) ≡ 35
  pub second : slice_index line (place + 4) ≡ 35
  pub digits : (k : ℕ) → place + 5 ≤ k → k < length line → is_hex_digit (slice_index line k) ≡ true
