-- What is told of a setup.
use Rattle.std.specs.Prelude.{◌≡◌, ℕ, List, [], ◌∷◌, ◌++◌, codes, decimal, string_bytes, Option, Some, None, Result, IsOk}
use Rattle.diag_setup.specs.declared.raw.RawSetup.{RawSetup}
use Rattle.diag_config.specs.declared.fault.ConfigFault.{ConfigFault}
use Rattle.diag_config.specs.declared.fault.ConfigFault.TheVariants.{Memory}
use Rattle.diag_config.specs.Fault.{Fails}
use Rattle.diag_config.specs.Key.{Fault}
use Rattle.diag_config.specs.Text.{config_fault_text}
use Rattle.diag_check.specs.declared.finding.Finding.{Finding}

-- the line of a setup that is told first, where it is known
abbrev pub line_text : Option ℕ → List ℕ
line_text None = []
line_text (Some line) = codes "line " ++ (decimal line ++ codes ": ")

-- the line of a fault: on which line of the setup, as a run tells it, and where it is
abbrev pub finding_text : Finding → List ℕ
finding_text finding = line_text finding.line ++ (config_fault_text finding.fault ++ (codes ": " ++ string_bytes finding.place))

-- the fault is that which the definition answers; want of memory is none
abbrev pub IsFault : ConfigFault → Result RawSetup Fault → Type 0
IsFault Memory said = ⊥
IsFault fault said = Fails fault said

-- the first of the faults is that which the definition answers, and there is none where it answers a setup
abbrev pub AreFaultsOf : List Finding → Result RawSetup Fault → Type 0
AreFaultsOf [] said = IsOk said
AreFaultsOf (first ∷ others) said = IsFault first.fault said

-- the first of the faults is this one
abbrev pub IsLedBy : ConfigFault → List Finding → Type 0
IsLedBy fault [] = ⊥
IsLedBy fault (first ∷ others) = first.fault ≡ fault
