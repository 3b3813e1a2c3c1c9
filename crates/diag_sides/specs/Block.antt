-- ISO 15765-2:2016, 9.6.5.4, separation time: whether a block is under way.
use Rattle.std.specs.Prelude.{Bool, true, false, Option, Some, None}
use Rattle.diag_sides.specs.declared.sending.Phase.{Phase}
use Rattle.diag_sides.specs.declared.sending.Phase.TheVariants.{AwaitsFlow, InBlock}
use Rattle.diag_sides.specs.declared.sending.Sending.{Sending}

abbrev pub waits_for_gap : Phase → Bool
waits_for_gap (AwaitsFlow ticks) = false
waits_for_gap (InBlock rest gap ticks) = true

-- a ConsecutiveFrame of the current message is still to go, behind its separation time
abbrev pub is_in_block : Option Sending → Bool
is_in_block None = false
is_in_block (Some c) = waits_for_gap c.phase
