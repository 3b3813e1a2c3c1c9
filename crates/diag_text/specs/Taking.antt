-- What has taken the lines of a file, and the line that is begun behind them.
use Rattle.std.specs.Prelude.{◌≡◌, List, ◌++◌, ℕ}
use Rattle.diag_can.specs.BusLine.{HasNoFeed}

-- P holds of the lines that were taken of these bytes, and this line is begun behind them
pub record LinesTaken (P : List ℕ → Type 0) (begun bytes : List ℕ) : Type 0 where
  pub lines : List ℕ
  pub took : P lines
  pub is : bytes ≡ lines ++ begun
  pub unended : HasNoFeed begun
