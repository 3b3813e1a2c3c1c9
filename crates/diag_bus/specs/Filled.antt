-- Where the testers' lists have frames.
use Rattle.std.specs.Prelude.{◌≡◌, ◌≢◌, ◌<◌, ◌==◌, if◌then◌else◌, ℕ, List, [], length, Some, slice_get}
use Rattle.diag_tp.specs.declared.sent.Sent.{Sent}
use Rattle.diag_bus.specs.declared.filled.Filled.{Filled}
use Rattle.diag_bus.specs.declared.filled.Filled.TheVariants.{Nowhere, At, Anywhere}

-- the lists have frames at no other index than this says
abbrev pub AreFilled : Filled → List (List Sent) → Type 0
AreFilled Nowhere lists = (i : ℕ) (frames : List Sent) → slice_get lists i ≡ Some frames → frames ≡ []
AreFilled (At index) lists = (index < length lists)
    × ((i : ℕ) (frames : List Sent) → i ≢ index → slice_get lists i ≡ Some frames → frames ≡ [])
AreFilled Anywhere lists = Unit {0}

-- the same where the list at this index may have frames, too
abbrev pub filled_at : Filled → ℕ → Filled
filled_at Nowhere index = At index
filled_at (At other) index = if other == index then At other else Anywhere
filled_at Anywhere index = Anywhere
