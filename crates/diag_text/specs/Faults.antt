-- What is printed for a fault, and the status that the program ends with.
use Rattle.std.specs.Prelude.{ℕ, codes, Bool, true, false, List, ◌++◌, Some}
use Rattle.std.specs.Fmt.{decimal}
use Rattle.diag_bus.specs.declared.fault.BusFault.{BusFault}
use Rattle.diag_bus.specs.declared.fault.BusFault.TheVariants as bus
use Rattle.diag_can.specs.Fault.{line_fault_text}
use Rattle.diag_can.specs.declared.fault.LogFault.{LogFault}
use Rattle.diag_can.specs.declared.fault.LogFault.TheVariants as log
use Rattle.diag_config.specs.Text.{config_fault_text}
use Rattle.diag_config.specs.declared.fault.ConfigFault.{ConfigFault}
use Rattle.diag_config.specs.declared.fault.ConfigFault.TheVariants as config
use Rattle.diag_desk.specs.declared.desk.StepFault.{StepFault}
use Rattle.diag_desk.specs.declared.desk.StepFault.TheVariants as step
use Rattle.diag_desk.specs.declared.following.TextFault.{TextFault}
use Rattle.diag_desk.specs.declared.following.TextFault.TheVariants as text
use Rattle.diag_workers.specs.declared.playing.PlayFault.{PlayFault}
use Rattle.diag_workers.specs.declared.playing.PlayFault.TheVariants as play
use Rattle.diag_text.specs.declared.fault.FaultLine.{FaultLine}
use Rattle.diag_text.specs.declared.fault.FaultLine.TheVariants as line
use Rattle.diag_text.specs.declared.fault.FixedLine.{FixedLine}
use Rattle.diag_text.specs.declared.fault.FixedLine.TheVariants as fixed
use Rattle.diag_text.specs.declared.fault.RunFault.{RunFault}
use Rattle.diag_text.specs.declared.fault.RunFault.TheVariants.{Files, Config, ConfigLong, Log, JournalLine, FileLong, Memory, JournalFull, RecordsDisagree, Read, Write, Differs, Capture, Otherwise}

-- the fault of a threaded play as one of a run
abbrev pub run_fault : PlayFault → RunFault
run_fault play.Memory = Memory
run_fault (play.Log who fault) = Log who fault
run_fault play.JournalFull = JournalFull
run_fault (play.RecordsDisagree who) = RecordsDisagree who

-- the fault of a play on one thread
abbrev pub step_fault : StepFault → RunFault
step_fault step.Memory = Memory
step_fault step.JournalFull = JournalFull

abbrev pub config_fault : ConfigFault → RunFault
config_fault config.Memory = Memory
config_fault fault = Config fault

-- a journal's text
abbrev pub text_fault : TextFault → RunFault
text_fault (text.Line n) = JournalLine n
text_fault (text.Differs n) = Differs n

abbrev pub config_text : ConfigFault → List ℕ
config_text config.Memory = codes "memory"
config_text fault = codes "config: " ++ config_fault_text fault

-- a tester is told by its number from 1
abbrev pub log_text : ℕ → LogFault → List ℕ
log_text who (log.Line n fault) = codes "log " ++ decimal who ++ codes " line " ++ decimal n
    ++ codes ": " ++ line_fault_text fault
log_text who log.TooManyLines = codes "log " ++ decimal who ++ codes ": too many lines"
log_text who log.TooManyEvents = codes "log " ++ decimal who ++ codes ": too many events"
log_text who log.Memory = codes "memory"

-- a line of a capture is told by its number from 1
abbrev pub capture_fault_text : ℕ → BusFault → List ℕ
capture_fault_text n (bus.Line fault) =
    codes "capture line " ++ decimal n ++ codes ": " ++ line_fault_text fault
capture_fault_text n bus.Late = codes "capture line " ++ decimal n ++ codes ": too late"
capture_fault_text n bus.Memory = codes "memory"

abbrev pub run_fault_text : RunFault → List ℕ
run_fault_text (Files wanted given) =
    decimal wanted ++ (codes " files wanted, " ++ (decimal given ++ codes " given"))
run_fault_text (Config fault) = config_text fault
run_fault_text ConfigLong = codes "config: too long"
run_fault_text (Log who fault) = log_text who fault
run_fault_text (JournalLine n) = codes "journal line " ++ decimal n
run_fault_text (FileLong n) = codes "file " ++ decimal n ++ codes ": too long"
run_fault_text Memory = codes "memory"
run_fault_text JournalFull = codes "journal full"
run_fault_text (RecordsDisagree who) = codes "records of " ++ decimal who ++ codes " disagree"
run_fault_text (Read n) = codes "cannot read file " ++ decimal n
run_fault_text Write = codes "cannot write"
run_fault_text (Differs n) = codes "entry " ++ decimal n ++ codes " differs"
run_fault_text (Capture n fault) = capture_fault_text n fault
run_fault_text (Otherwise told) = codes "the unit answered otherwise"

-- what is told of a fault: of a unit that answered otherwise, its first difference
abbrev pub told_text : RunFault → List ℕ
told_text (Otherwise (Some told)) = told.items
told_text fault = run_fault_text fault

-- the whole line on standard error
abbrev pub fault_text : RunFault → List ℕ
fault_text fault = codes "uds_play: " ++ told_text fault ++ codes "\n"

abbrev pub config_status : ConfigFault → ℕ
config_status config.Memory = 4
config_status fault = 2

abbrev pub log_status : LogFault → ℕ
log_status log.Memory = 4
log_status fault = 3

abbrev pub bus_status : BusFault → ℕ
bus_status bus.Memory = 4
bus_status fault = 3

abbrev pub status : RunFault → ℕ
status (Files wanted given) = 1
status (Config fault) = config_status fault
status ConfigLong = 2
status (Log who fault) = log_status fault
status (JournalLine n) = 3
status (FileLong n) = 3
status Memory = 4
status JournalFull = 5
status (RecordsDisagree who) = 6
status (Read n) = 7
status Write = 7
status (Differs n) = 8
status (Capture n fault) = bus_status fault
status (Otherwise told) = 8

-- ---- what is told without memory

-- the text has no number and no key in it, and memory is not asked for it
abbrev pub is_fixed : RunFault → Bool
is_fixed ConfigLong = true
is_fixed Memory = true
is_fixed JournalFull = true
is_fixed Write = true
is_fixed fault = false

-- the bytes of such a line
abbrev pub fixed_bytes : FixedLine → List ℕ
fixed_bytes fixed.ConfigLong = fault_text ConfigLong
fixed_bytes fixed.Memory = fault_text Memory
fixed_bytes fixed.JournalFull = fault_text JournalFull
fixed_bytes fixed.Write = fault_text Write

-- the bytes of a line
abbrev pub line_bytes : FaultLine → List ℕ
line_bytes (line.Fixed l) = fixed_bytes l
line_bytes (line.Made bytes) = bytes.items
