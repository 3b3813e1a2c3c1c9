-- Which lines of a bus are a tester's flow control (ISO 15765-2:2016, 9.6.5).
use Rattle.std.specs.Prelude.{ℕ, ◌/◌, ◌==◌, ◌&&◌, Bool, false, List, [], ◌∷◌, Option, Some, None, Result, Ok, Err}
use Rattle.std.specs.List.{list_any}
use Rattle.diag_can.specs.declared.bus_line.BusLine.{BusLine}
use Rattle.diag_can.specs.declared.bus_line.BusLine.TheVariants.{Empty, Ticks, Stamped}
use Rattle.diag_can.specs.declared.fault.LineFault.{LineFault}
use Rattle.diag_can.specs.declared.frame.Frame.{Frame}

-- status, block size and separation time: three bytes at least, of which the first begins with 3
abbrev pub is_flow : List ℕ → Bool
is_flow [] = false
is_flow (control ∷ []) = false
is_flow (control ∷ block_size ∷ []) = false
is_flow (control ∷ block_size ∷ st_min ∷ rest) = control / 16 == 3

-- such a frame with one of these identifiers
abbrev pub flows : List ℕ → Option Frame → Bool
flows requests None = false
flows requests (Some frame) = list_any (λ id. id == frame.id) requests && is_flow frame.bytes

abbrev pub says_flow : List ℕ → BusLine → Bool
says_flow requests Empty = false
says_flow requests (Ticks count) = false
says_flow requests (Stamped moment frame) = flows requests frame

-- the same of what was read; a line at fault is none
abbrev pub reads_flow : List ℕ → Result BusLine LineFault → Bool
reads_flow requests (Ok said) = says_flow requests said
reads_flow requests (Err fault) = false
