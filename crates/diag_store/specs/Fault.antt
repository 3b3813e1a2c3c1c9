-- What is printed where a value is not written.
use Rattle.std.specs.Prelude.{ℕ, codes, List}
use Rattle.diag_store.specs.declared.dids.DidFault.{DidFault}
use Rattle.diag_store.specs.declared.dids.DidFault.TheVariants.{Unknown, Length}

abbrev pub did_fault_text : DidFault → List ℕ
did_fault_text Unknown = codes "no such identifier"
did_fault_text Length = codes "another length than the value kept"
