-- What a writer of reply lines keeps.
use Rattle.std.specs.Prelude.{◌≡◌, ℕ, ◌<◌, ◌≤◌, List, take, Option}
use Rattle.diag_can.specs.Reply.{name_text}
use Rattle.diag_can.specs.declared.writer.Front.{Front}

-- this is kept, if anything
pub record IsText (front : Front) (text : List ℕ) : Type 0 where
  pub short : front.len ≤ 24
  pub is : 0 < front.len → take front.len front.bytes ≡ text

-- that of this name, of frames with these flags, if of CAN FD, and of this identifier
abbrev pub IsFront : Front → List ℕ → Option ℕ → ℕ → Type 0
IsFront front name flags id = IsText front (name_text name flags id)
