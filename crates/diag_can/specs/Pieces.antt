-- A text that comes in pieces, and what takes its lines.
use Rattle.std.specs.Prelude.{◌≡◌, List, ◌++◌, ℕ}
use Rattle.diag_can.specs.BusLine.{HasNoFeed}

-- A front of this text was taken, which is where P held of what was taken before, so Q holds of it and the front; no line
-- ends in the rest.
pub record TakesLines (P Q : List ℕ → Type 0) (text rest : List ℕ) : Type 0 where
  pub front : List ℕ
  pub is : text ≡ front ++ rest
  pub begun : HasNoFeed rest
  pub takes : (seen : List ℕ) → P seen → Q (seen ++ front)
