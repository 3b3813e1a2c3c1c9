-- The clock of a live run beside the machine's: that counts nanoseconds, and it tells milliseconds.
use Rattle.std.specs.Prelude.{◌≡◌, ◌≤◌, ◌⊎◌, ℕ, ◌+◌, ◌-◌, ◌/◌, ◌^◌, min, true}
use Rattle.std.specs.Duration.{as_nanos}
use Rattle.uds_play.specs.declared.pace.Pace.{Pace}

-- nowhere does it stop
abbrev pub nowhere : ℕ
nowhere = 2 ^ 64 - 1

-- what it tells at this time
abbrev pub shown : Pace → ℕ → ℕ
shown pace time = min ((time - as_nanos pace.behind) / 1_000_000) pace.stop

-- since it told something last a frame may have been written: a block may have begun there, it has come to where it stopped, or
-- no block was under way
abbrev pub MayHaveDrawn : Pace → Type 0
MayHaveDrawn pace = (pace.began ≡ true) ⊎ ((pace.stop ≤ pace.told) ⊎ (pace.stop ≡ nowhere))

-- from this time on it goes on from what it told, no faster than the machine's clock
abbrev pub GoesOnFrom : Pace → ℕ → ℕ → Type 0
GoesOnFrom pace told time = (more : ℕ) → shown pace (time + more) ≤ told + more / 1_000_000
