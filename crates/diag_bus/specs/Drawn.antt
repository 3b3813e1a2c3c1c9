-- A frame that a tester is sent.
use Rattle.std.specs.Prelude.{ℕ}
use Rattle.diag_tp.specs.declared.sent.Sent.{Sent}

-- the tester, and the frame with its time on the tester's link
pub record Drawn : Type 0 where
  pub who : ℕ
  pub sent : Sent
