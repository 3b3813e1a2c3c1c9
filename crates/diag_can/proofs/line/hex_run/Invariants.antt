use Rattle.std.proofs.Common.{◌≡◌, ◌+◌, ◌-◌, ◌<◌, ◌≤◌, ℕ, length, get_or, true}
use Rattle.hex.specs.Hex.{is_hex_digit}
use Rattle.diag_can.proofs.line.hex_run.Given as goal

-- all that was looked at are digits
abbrev pub invariant-loop-at : goal.invariant-loop-at
invariant-loop-at l = (l.at ≤ length l.text) × ((k : ℕ) → k < l.at → is_hex_digit (get_or l.text k 0) ≡ true)

abbrev pub decreases-loop-at : goal.decreases-loop-at
decreases-loop-at l = length l.text + 1 - l.at
