-- What is printed where a step is not made.
use Rattle.std.specs.Prelude.{ℕ, codes, List}
use Rattle.diag_gate.specs.declared.fault.TryFault.{TryFault}
use Rattle.diag_gate.specs.declared.fault.TryFault.TheVariants.{Memory, JournalFull, Busy}

abbrev pub try_fault_text : TryFault → List ℕ
try_fault_text Memory = codes "no memory"
try_fault_text JournalFull = codes "the journal is full"
try_fault_text (Busy step) = codes "another tester has the desk"
