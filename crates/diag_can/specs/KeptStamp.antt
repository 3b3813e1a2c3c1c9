-- What a stamp is kept by.
use Rattle.std.specs.Prelude.{◌≡◌, ℕ, ◌+◌, ◌/◌, ◌%◌, ◌<◌, ◌^◌, List}
use Rattle.diag_can.specs.Reply.{seconds_text, thousandths_text}

-- the stamp of a time whose seconds have ten digits, in two parts, and when its second began
pub record IsStamp (at second : ℕ) (seconds thousandths : List ℕ) : Type 0 where
  pub early : at / 1000 < 10 ^ 10
  pub begun : at ≡ second + at % 1000
  pub seconds_are : seconds ≡ seconds_text (at / 1000)
  pub thousandths_are : thousandths ≡ thousandths_text (at % 1000)
