-- What is printed for a fault.
use Rattle.std.specs.Prelude.{ℕ, codes, List, ◌++◌}
use Rattle.std.specs.Fmt.{decimal}
use Rattle.diag_desk.specs.declared.desk.StepFault.{StepFault}
use Rattle.diag_desk.specs.declared.desk.StepFault.TheVariants as step
use Rattle.diag_desk.specs.declared.following.TextFault.{TextFault}
use Rattle.diag_desk.specs.declared.following.TextFault.TheVariants as text
use Rattle.diag_desk.specs.declared.journal.JournalPush.{JournalPush}
use Rattle.diag_desk.specs.declared.journal.JournalPush.TheVariants as push
use Rattle.diag_desk.specs.declared.read.JournalFault.{JournalFault}
use Rattle.diag_desk.specs.declared.read.JournalFault.TheVariants as journal
use Rattle.diag_desk.specs.declared.replaying.ReplayFault.{ReplayFault}
use Rattle.diag_desk.specs.declared.replaying.ReplayFault.TheVariants as replay

abbrev pub step_fault_text : StepFault → List ℕ
step_fault_text step.Memory = codes "no memory"
step_fault_text step.JournalFull = codes "the journal is full"

abbrev pub push_fault_text : JournalPush → List ℕ
push_fault_text push.Full = codes "the journal is full"
push_fault_text push.Memory = codes "no memory"

-- a line, and an entry, is told by its number from 1
abbrev pub journal_fault_text : JournalFault → List ℕ
journal_fault_text (journal.Line n) = codes "journal line " ++ decimal n
journal_fault_text journal.Memory = codes "no memory"

abbrev pub replay_fault_text : ReplayFault → List ℕ
replay_fault_text (replay.Differs n) = codes "entry " ++ decimal n ++ codes " differs"
replay_fault_text replay.Memory = codes "no memory"

abbrev pub text_fault_text : TextFault → List ℕ
text_fault_text (text.Line n) = codes "journal line " ++ decimal n
text_fault_text (text.Differs n) = codes "entry " ++ decimal n ++ codes " differs"
