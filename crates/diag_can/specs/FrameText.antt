-- The text of a data frame, which ends with the digits of its bytes.
use Rattle.std.specs.Prelude.{◌≡◌, ℕ, ◌-◌, ◌*◌, ◌≤◌, IsOk, List, [], length, drop, Result, Ok, Err}
use Rattle.hex.specs.Hex.{decode_of}

-- the bytes that were read, if any
abbrev pub bytes_or_none : {E : Type 0} → Result (List ℕ) E → List ℕ
bytes_or_none (Ok bytes) = bytes
bytes_or_none (Err fault) = []

-- the digits of so many bytes at the end of a text
abbrev pub last_digits : List ℕ → ℕ → List ℕ
last_digits text count = drop (length text - 2 * count) text

-- the bytes that they write
abbrev pub last_bytes : List ℕ → ℕ → List ℕ
last_bytes text count = bytes_or_none (decode_of (last_digits text count))

-- so many bytes are written at the end of the text
pub record EndsInBytes (text : List ℕ) (count : ℕ) : Type 0 where
  pub few : count ≤ 64
  pub inside : 2 * count ≤ length text
  pub hex : IsOk (decode_of (last_digits text count))

-- the last of these eight bytes are those at the end of the text, as many as are written there, where they are no more
abbrev pub IsLastEight : List ℕ → List ℕ → Type 0
IsLastEight text eight = (count : ℕ) → EndsInBytes text count → count ≤ 8
    → decode_of (last_digits text count) ≡ Ok (drop (8 - count) eight)
