-- What the reader of a setup returns beside what the definition says.
use Rattle.std.specs.Prelude.{◌≡◌, Result, Ok, Err}
use Rattle.diag_setup.specs.declared.raw.RawSetup.{RawSetup}
use Rattle.diag_setup.specs.declared.fault.SetupFault.{SetupFault}
use Rattle.diag_config.specs.declared.fault.ConfigFault.{ConfigFault}
use Rattle.diag_config.specs.declared.fault.ConfigFault.TheVariants.{Syntax, Missing, BadValue, Setup, Memory}
use Rattle.diag_config.specs.declared.fault.KeyFault.{KeyFault}
use Rattle.diag_config.specs.declared.fault.KeyFault.TheVariants as key
use Rattle.diag_config.specs.Key.{Fault, syntax, missing, bad_value, refused}

-- the fault is the one that the definition answers, unless memory ran out
abbrev pub Fails : {Y : Type 0} → ConfigFault → Result Y Fault → Type 0
Fails Memory said = Unit {0}
Fails Syntax said = said ≡ Err syntax
Fails (Missing key) said = said ≡ Err (missing key.now)
Fails (BadValue key) said = said ≡ Err (bad_value key.now)
Fails (Setup fault) said = said ≡ Err (refused fault)

-- what was returned is what the definition says, unless memory ran out
abbrev pub Gives : {X : Type 0} → Result X ConfigFault → Result X Fault → Type 0
Gives (Ok x) said = said ≡ Ok x
Gives (Err e) said = Fails e said

-- the fault of a table's keys as that of the whole setup
abbrev pub config_fault : KeyFault → ConfigFault
config_fault (key.Missing name) = Missing name
config_fault (key.BadValue name) = BadValue name
config_fault key.Memory = Memory

-- a checked setup, or its fault as that of the file
abbrev pub or_setup_fault : Result RawSetup SetupFault → Result RawSetup ConfigFault
or_setup_fault (Ok setup) = Ok setup
or_setup_fault (Err fault) = Err (Setup fault)
