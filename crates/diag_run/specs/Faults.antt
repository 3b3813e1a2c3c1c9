-- What is told of a fault at a line of a capture.
use Rattle.std.specs.Prelude.{ℕ}
use Rattle.diag_bus.specs.declared.fault.BusFault.{BusFault}
use Rattle.diag_bus.specs.declared.fault.BusFault.TheVariants.{Line, Late, Memory}
use Rattle.diag_run.specs.declared.capture.CaptureFault.{CaptureFault}
use Rattle.diag_run.specs.declared.capture.CaptureFault.TheVariants as capture

-- the line's own fault with its number, or that memory was refused
abbrev pub fault_at : ℕ → BusFault → CaptureFault
fault_at number Memory = capture.Memory
fault_at number (Line fault) = capture.Line number (Line fault)
fault_at number Late = capture.Line number Late
