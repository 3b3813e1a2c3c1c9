-- Why a step isn't taken.
use Rattle.std.proofs.Common.{◌≡◌, Err, Result, inl, inr}
use Rattle.std.specs.declared.alloc.AllocError.{AllocError}
use Rattle.diag_desk.specs.declared.desk.StepFault.{StepFault}
use Rattle.diag_desk.specs.declared.desk.StepFault.TheVariants.{Memory, JournalFull}
use Rattle.diag_port.specs.Fault.{IsFaultBy}

-- where more holds than this
pub fault_by : {R F P Q : Type 0} (gives : R → F → Type 0) (fault : F) → (P → Q) → IsFaultBy gives P fault → IsFaultBy gives Q fault
fault_by gives fault more (inl refused) = inl refused
fault_by gives fault more (inr holds) = inr (more holds)

pub same_fault : {T : Type 0} (f g : StepFault) → ◌≡◌ {A = Result T StepFault} (Err f) (Err g) → f ≡ g
same_fault f g is = cc

-- what holds where a step is refused otherwise than by memory, holds where the journal is full
pub full_is : {P : Type 0} (fault : StepFault) → fault ≡ JournalFull → IsFaultBy {Refused = AllocError} (λ _ f. f ≡ Memory) P fault → P
full_is Memory is holds = absurd cc
full_is JournalFull is (inl refused) =
    let other : JournalFull ≡ Memory = refused.1 in
    absurd cc
full_is JournalFull is (inr holds) = holds
