-- How a setup's fault is told.
use Rattle.std.proofs.Common.{◌≡◌, ℕ, ◌++◌, refl}
use Rattle.std.specs.Prelude.{codes}
use Rattle.diag_config.specs.Text.{config_fault_text}
use Rattle.diag_config.specs.declared.fault.ConfigFault.{ConfigFault}
use Rattle.diag_config.specs.declared.fault.ConfigFault.TheVariants as fault
use Rattle.uds_unit.specs.Calls.{fault_line, fault_status}

-- a fault with the status 2 is none of memory
pub setup_line : (f : ConfigFault) → fault_status f ≡ 2 → codes "uds_play: config: " ++ config_fault_text f ++ codes "\n" ≡ fault_line f
setup_line fault.Syntax is = refl
setup_line (fault.Missing key) is = refl
setup_line (fault.BadValue key) is = refl
setup_line (fault.Setup f) is = refl
setup_line fault.Memory is = absurd (clash is)
  where
    clash : ◌≡◌ {A = ℕ} 4 2 → ⊥
    clash h = cc
