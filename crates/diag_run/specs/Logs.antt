-- The logs of a serial run, each taken as its lines come.
use Rattle.std.specs.Prelude.{◌≡◌, ℕ, ◌+◌, List, [], ◌∷◌}
use Rattle.diag_can.specs.HasRead.{HasRead}
use Rattle.diag_can.specs.declared.frame.Ids.{Ids}
use Rattle.diag_can.specs.declared.log.Timing.{Timing}
use Rattle.diag_setup.specs.declared.raw.RawSetup.{RawSetup}
use Rattle.diag_setup.specs.Setup.{ids_of}
use Rattle.diag_text.specs.Taking.{LinesTaken}
use Rattle.diag_text.specs.declared.taking.LineTaker.{LineTaker}
use Rattle.diag_run.specs.declared.logs.LogLines.{LogLines}

-- whose log is taken, and how it is read
abbrev pub aim_of : LineTaker LogLines → ℕ × Ids × Timing
aim_of taker = (taker.lines.who, taker.lines.ids, taker.lines.timing)

-- these take the logs of tester n and of those after it
abbrev pub AreLogs : ℕ → RawSetup → Timing → List (LineTaker LogLines) → Type 0
AreLogs n setup timing [] = Unit {0}
AreLogs n setup timing (taker ∷ takers) =
    (aim_of taker ≡ (n, ids_of setup n, timing)) × AreLogs (n + 1) setup timing takers

-- the text of a log was taken: its whole lines, and what is begun behind them
abbrev pub TookLog : LineTaker LogLines → List ℕ → Type 0
TookLog taker text =
    LinesTaken (HasRead taker.lines.ids taker.lines.timing taker.lines.log) taker.begun.items text
