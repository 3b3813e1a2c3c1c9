-- The lines of a capture of a whole bus, whole or piece by piece.
use Rattle.std.specs.Prelude.{◌≡◌, ℕ, nat_lt, ◌==◌, if◌then◌else◌, false, All, IfSome, List, [], ◌∷◌, ◌++◌, length, Option, Result, Ok, Err}
use Rattle.std.specs.List.{slice_split}
use Rattle.diag_can.specs.Line.{line_says}
use Rattle.diag_can.specs.Log.{is_feed, without_return}
use Rattle.diag_can.specs.declared.bus_line.BusLine.{BusLine}
use Rattle.diag_can.specs.declared.fault.LineFault.{LineFault}
use Rattle.diag_can.specs.declared.fault.LineFault.TheVariants.{BadLine}
use Rattle.diag_can.specs.declared.frame.KnownId.{KnownId}

-- what a whole line says, its LF not counted: one of more than 4096 bytes is a bad line. These identifiers are read
abbrev pub bus_line : List KnownId → List ℕ → Result BusLine LineFault
bus_line known piece = if nat_lt 4096 (length piece) then Err BadLine else line_says known (without_return piece)

-- ---- lines of a text

-- the pieces between line feeds: an empty last piece is no line
abbrev pub whole_pieces : List (List ℕ) → List (List ℕ)
whole_pieces [] = []
whole_pieces (piece ∷ []) = if length piece == 0 then [] else piece ∷ []
whole_pieces (piece ∷ next ∷ pieces) = piece ∷ whole_pieces (next ∷ pieces)

-- the lines of a capture, each with its CR where it has one
abbrev pub bus_lines : List ℕ → List (List ℕ)
bus_lines text = whole_pieces (slice_split is_feed text)

-- ---- a text that comes piece by piece

-- no byte is a line feed
abbrev pub HasNoFeed : List ℕ → Type 0
HasNoFeed line = All (λ c. is_feed c ≡ false) line

-- the first line of a text without its line feed, what follows that, and what the line says where that is known, where these
-- identifiers are read
pub record IsFirstLine (known : List KnownId) (text line after : List ℕ) (said : Option BusLine) : Type 0 where
  pub is : text ≡ line ++ 10 ∷ after
  pub plain : HasNoFeed line
  pub says : IfSome said (λ said. bus_line known line ≡ Ok said)

abbrev pub front_pieces : List (List ℕ) → List (List ℕ)
front_pieces [] = []
front_pieces (piece ∷ []) = []
front_pieces (piece ∷ next ∷ pieces) = piece ∷ front_pieces (next ∷ pieces)

abbrev pub last_piece : List (List ℕ) → List ℕ
last_piece [] = []
last_piece (piece ∷ []) = piece
last_piece (piece ∷ next ∷ pieces) = last_piece (next ∷ pieces)

-- the lines that a line feed ends
unfoldable pub ended_lines : List ℕ → List (List ℕ)
ended_lines text = front_pieces (slice_split is_feed text)

-- what stands behind the last line feed
unfoldable pub begun_line : List ℕ → List ℕ
begun_line text = last_piece (slice_split is_feed text)
