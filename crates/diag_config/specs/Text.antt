-- What is printed for a setup that could not be read.
use Rattle.std.specs.Prelude.{ℕ, codes, List, ◌++◌}
use Rattle.diag_setup.specs.Fault.{setup_fault_text}
use Rattle.diag_config.specs.declared.fault.ConfigFault.{ConfigFault}
use Rattle.diag_config.specs.declared.fault.ConfigFault.TheVariants as config

abbrev pub config_fault_text : ConfigFault → List ℕ
config_fault_text config.Syntax = codes "syntax"
config_fault_text (config.Missing key) = codes "missing " ++ key.now
config_fault_text (config.BadValue key) = codes "bad value " ++ key.now
config_fault_text (config.Setup fault) = setup_fault_text fault
config_fault_text config.Memory = codes "memory"
