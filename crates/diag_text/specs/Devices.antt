-- What is told of a file that is not read whole, and of a text that is not written.
use Rattle.std.specs.Prelude.{ℕ, codes, List}
use Rattle.diag_text.specs.declared.io.ReadFault.{ReadFault}
use Rattle.diag_text.specs.declared.io.ReadFault.TheVariants.{Device, Long, Memory}

abbrev pub read_fault_text : ReadFault → List ℕ
read_fault_text Device = codes "cannot read"
read_fault_text Long = codes "too long"
read_fault_text Memory = codes "memory"

abbrev pub write_fault_text : List ℕ
write_fault_text = codes "cannot write"
