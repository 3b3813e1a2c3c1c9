-- What is printed for a line that is at fault, and for a log.
use Rattle.std.specs.Prelude.{ℕ, codes, List, ◌++◌}
use Rattle.std.specs.Fmt.{decimal}
use Rattle.diag_can.specs.declared.fault.LineFault.{LineFault}
use Rattle.diag_can.specs.declared.fault.LineFault.TheVariants.{BadLine, BadTick, TooManyBytes}
use Rattle.diag_can.specs.declared.fault.Limit.{Limit}
use Rattle.diag_can.specs.declared.fault.Limit.TheVariants as limit
use Rattle.diag_can.specs.declared.fault.LogFault.{LogFault}
use Rattle.diag_can.specs.declared.fault.LogFault.TheVariants.{Line, TooManyLines, Memory, TooManyEvents}

abbrev pub line_fault_text : LineFault → List ℕ
line_fault_text BadLine = codes "bad line"
line_fault_text BadTick = codes "bad tick"
line_fault_text TooManyBytes = codes "too many bytes"

-- a line is told by its number from 1
abbrev pub log_fault_text : LogFault → List ℕ
log_fault_text (Line n fault) = codes "line " ++ decimal n ++ codes ": " ++ line_fault_text fault
log_fault_text TooManyLines = codes "too many lines"
log_fault_text Memory = codes "memory"
log_fault_text TooManyEvents = codes "too many events"

-- why a log takes no more is a fault of it
abbrev pub fault_of : Limit → LogFault
fault_of limit.Lines = TooManyLines
fault_of limit.Events = TooManyEvents
fault_of limit.Memory = Memory
