-- Seats given out to the first testers, and taken back.
use Rattle.std.specs.Prelude.{◌≡◌, ◌⊎◌, ℕ, ◌+◌, ◌<◌, List, length, slice_index_or, Some}
use Rattle.diag_desk.specs.Timed.{Timed}
use Rattle.diag_gate.specs.Seats.{SeatView, HostView, of_host, was_given, fresh}

-- the first testers are out, each with a new seat, and the host is as it was in all else
pub record Out (h n : HostView) (count : ℕ) (seats : List SeatView) : Type 0 where
  pub same : (n.gate ≡ h.gate) × (n.opening ≡ h.opening) × (n.seen ≡ h.seen)
  pub wide : length n.owns ≡ length h.owns
  pub many : length seats ≡ count
  pub each : (k : ℕ) (d : SeatView)
      → k < count
      → (l : List Timed)
      × (of_host h (k + 1) ≡ Some l)
      × (slice_index_or seats k d ≡ fresh h (k + 1) l)
  pub rest : (t : ℕ)
      → (t ≡ 0) ⊎ (count < t)
      → (of_host n t ≡ of_host h t) × (was_given n t ≡ was_given h t)

-- seats of the first testers, in order, are with the host again
pub record Back (h n : HostView) (seats : List SeatView) : Type 0 where
  pub same : (n.gate ≡ h.gate) × (n.opening ≡ h.opening)
  pub wide : length n.owns ≡ length h.owns
  pub each : (k : ℕ) (d : SeatView)
      → k < length seats
      → of_host n (k + 1) ≡ Some (slice_index_or seats k d).own
  pub rest : (t : ℕ) → (t ≡ 0) ⊎ (length seats < t) → of_host n t ≡ of_host h t
