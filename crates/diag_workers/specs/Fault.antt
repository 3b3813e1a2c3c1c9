-- Why a play is not made, by why its steps are not, and what is printed.
use Rattle.std.specs.Prelude.{ℕ, codes, List}
use Rattle.diag_desk.specs.declared.desk.StepFault.{StepFault}
use Rattle.diag_desk.specs.declared.desk.StepFault.TheVariants as step
use Rattle.diag_workers.specs.declared.playing.PlayFault.{PlayFault}
use Rattle.diag_workers.specs.declared.playing.PlayFault.TheVariants.{Memory, Log, JournalFull, RecordsDisagree}

abbrev pub play_fault : StepFault → PlayFault
play_fault step.Memory = Memory
play_fault step.JournalFull = JournalFull

abbrev pub play_fault_text : PlayFault → List ℕ
play_fault_text Memory = codes "memory"
play_fault_text (Log who fault) = codes "a log is at fault"
play_fault_text JournalFull = codes "the journal is full"
play_fault_text (RecordsDisagree who) = codes "the records disagree"
