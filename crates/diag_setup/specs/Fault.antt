-- The texts of the faults of a setup.
use Rattle.std.specs.Prelude.{ℕ, List, codes}
use Rattle.diag_setup.specs.declared.fault.SetupFault.{SetupFault}
use Rattle.diag_setup.specs.declared.fault.SetupFault.TheVariants.{Range, Empty, DuplicateId, UnknownCode, UnknownLevel}

abbrev pub setup_fault_text : SetupFault → List ℕ
setup_fault_text Range = codes "range"
setup_fault_text Empty = codes "empty"
setup_fault_text DuplicateId = codes "duplicate"
setup_fault_text UnknownCode = codes "unknown code"
setup_fault_text UnknownLevel = codes "unknown level"
