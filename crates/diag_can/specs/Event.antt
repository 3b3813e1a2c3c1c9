-- What happens on a tester's link.
use Rattle.std.specs.Prelude.{ℕ, List}

-- a frame with the tester's request identifier or with the functional one, and its data, up to 64 bytes; or so many unit ticks
pub data Event : Type 0 where
  Physical : (bytes : List ℕ) → Event
  Functional : (bytes : List ℕ) → Event
  Ticks : (count : ℕ) → Event
