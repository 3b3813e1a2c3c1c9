-- Which testers are idle: time alone changes nothing for them.
use Rattle.std.specs.Prelude.{◌≡◌, ◌<◌, ◌≤◌, ◌+◌, ◌⊎◌, ℕ, List, Option, Some, None, slice_get}
use Rattle.diag_judge.specs.Judging.{IsIdle}
use Rattle.diag_judge.specs.declared.tester.Tester.{Tester}
use Rattle.diag_comparing.specs.Keeping.{bytes_to}
use Rattle.diag_comparing.specs.declared.exchange_lines.UnitFrame.{UnitFrame}
use Rattle.diag_comparing.specs.declared.range.Range.{Range}

-- by indices from 0
abbrev pub IsOutside : Range → ℕ → Type 0
IsOutside range i = (i < range.first) ⊎ (range.end ≤ i)

-- the second range has all that the first has
abbrev pub IsWider : Range → Range → Type 0
IsWider range wider = (i : ℕ) → IsOutside wider i → IsOutside range i

-- the testers that a range hasn't are idle
abbrev pub AreIdleOutside : Range → List Tester → Type 0
AreIdleOutside range testers = (i : ℕ) (tester : Tester) → slice_get testers i ≡ Some tester → IsOutside range i → IsIdle tester

-- a line's frame, if it has one, is to a tester of the range
abbrev pub HasNoneOutside : Range → Option UnitFrame → Type 0
HasNoneOutside range sent = (i : ℕ) → IsOutside range i → bytes_to sent (i + 1) ≡ None
