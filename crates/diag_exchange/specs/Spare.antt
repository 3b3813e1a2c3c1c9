-- Boxes of exchanges that are over.
use Rattle.std.specs.Prelude.{ℕ, ◌-◌}

-- how many there are, and how many the list has places for
pub record SpareView : Type 0 where
  pub count : ℕ
  pub places : ℕ

-- one of them was taken, if there was one
abbrev pub one_less : SpareView → SpareView
one_less spare = record { count = spare.count - 1; places = spare.places }
