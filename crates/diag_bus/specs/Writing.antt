-- The writers of reply lines: whose names and flags they have, and which frames they write.
use Rattle.std.specs.Prelude.{◌≡◌, ◌≤◌, ◌<◌, ℕ, ◌+◌, List, length, Option, Some, slice_get}
use Rattle.std.specs.List.{All}
use Rattle.diag_can.specs.WriterView.{WriterView}
use Rattle.diag_tp.specs.declared.sent.Sent.{Sent}
use Rattle.diag_setup.specs.declared.raw.RawSetup.{RawSetup}
use Rattle.diag_setup.specs.Setup.{flags_of, name_of}
use Rattle.diag_world.specs.Server.{closing_time}
use Rattle.diag_bus.specs.Clock.{StartsBelow, moment_end}
use Rattle.diag_bus.specs.declared.clock.Start.{Start}

-- what the writer of a tester has
abbrev pub writer_of : RawSetup → ℕ → WriterView
writer_of setup t = record { name = name_of setup t; flags = flags_of setup t }

-- these are the testers' writers: they have their names and flags
pub record AreNamesOf (setup : RawSetup) (writers : List WriterView) : Type 0 where
  pub many : length writers ≡ length setup.testers
  pub each : (i : ℕ) (writer : WriterView) → slice_get writers i ≡ Some writer → writer ≡ writer_of setup (i + 1)

-- frames of the tester at this index, from 0, are written by these writers
pub record AreWritable (setup : RawSetup) (begins : Option Start) (writers : List WriterView) (index : ℕ)
    (frames : List Sent) : Type 0 where
  pub names : AreNamesOf setup writers
  pub tester : index < length setup.testers
  pub start : StartsBelow begins moment_end
  pub sent : All (λ f. f.at ≤ closing_time) frames
