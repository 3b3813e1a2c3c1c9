-- How an exchange is told.
use Rattle.std.specs.Prelude.{ℕ, List, take}
use Rattle.diag_setup.specs.Setup.{name_of}
use Rattle.diag_setup.specs.declared.raw.RawSetup.{RawSetup}
use Rattle.diag_bus.specs.Text.{bus_moment, start_after}
use Rattle.diag_exchange.specs.Agreeing.{agrees}
use Rattle.diag_exchange.specs.Over.{Over}
use Rattle.diag_exchange.specs.declared.happening.CaptureLine.{CaptureLine}
use Rattle.diag_told.specs.Told.{capture_line_told, told_text}

abbrev pub line_number : ℕ × Over → ℕ
line_number told = (capture_line_told told.1).number

-- the bus's time of a line of these, as it is known there
abbrev pub moment_told : RawSetup → List (List ℕ) → CaptureLine → ℕ
moment_told setup lines at = bus_moment (start_after setup 0 (take at.number lines)) at.moment

-- the line of a tester's exchange
abbrev pub told_line : RawSetup → List (List ℕ) → ℕ × Over → List ℕ
told_line setup lines told = told_text (name_of setup told.0) (moment_told setup lines (capture_line_told told.1)) (agrees told.1) told.1
