-- What is seen of the bytes of a text by one look at many of them.
use Rattle.std.specs.Prelude.{◌≡◌, ℕ, ◌+◌, ◌<◌, ◌≤◌, ◌==◌, if◌then◌else◌, Bool, true, false, List, slice_index}
use Rattle.std.specs.Int.{w64, trailing_zeros}

-- the place of the lowest bit that is set, or n where none is
abbrev pub first_set : ℕ → ℕ → ℕ
first_set mask n = if mask == 0 then n else trailing_zeros w64 mask

-- of the n bytes from this place on so many pass the test, from the first, and the next of the n fails it
pub record IsRunIn (test : ℕ → Bool) (text : List ℕ) (at n run : ℕ) : Type 0 where
  pub in_range : run ≤ n
  pub pass : (k : ℕ) → at ≤ k → k < at + run → test (slice_index text k) ≡ true
  pub stops : run < n → test (slice_index text (at + run)) ≡ false

-- each of the sixteen bytes from this place on is between those of two lists
abbrev pub IsWithin : List ℕ → ℕ → List ℕ → List ℕ → Type 0
IsWithin text at least most = (j : ℕ) → j < 16
    → (slice_index least j ≤ slice_index text (at + j)) × (slice_index text (at + j) ≤ slice_index most j)

-- of sixteen pairs of bytes the first is no more than the second
abbrev pub AreBounds : List ℕ → List ℕ → Type 0
AreBounds least most = (j : ℕ) → j < 16 → (slice_index least j ≤ slice_index most j) × (slice_index most j < 256)
