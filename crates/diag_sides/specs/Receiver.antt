-- What a receiver keeps of the events: of an open reception no more than the next frames need.
use Rattle.std.specs.Prelude.{ℕ, ◌+◌, ◌-◌, ◌%◌, ◌==◌, nat_le, nat_lt, min, Bool, false, ◌&&◌, if◌then◌else◌, List, ◌++◌, length, take, Option, Some, None, is_some, option_and_then}
use Rattle.diag_pdu.specs.Kind.{Kind, Single, First, Overflow, Consecutive, FlowControl, Ignored}
use Rattle.diag_pdu.specs.declared.setup.LinkSetup.{LinkSetup}
use Rattle.diag_pdu.specs.declared.step.Request.{Request}
use Rattle.diag_pdu.specs.Request.{request_of}
use Rattle.diag_pdu.specs.declared.length.DataLength.{DataLength}
use Rattle.diag_pdu.specs.Length.{in_bytes}
use Rattle.diag_pdu.specs.Cut.{consecutive_count, gone_with, padded, flow_bytes}

-- a message received in part: its length, the length of its frames, how many Consecutives came, the bytes so far, the ticks since
-- the last frame
pub record Receiving : Type 0 where
  pub len : ℕ
  pub rx_dl : DataLength
  pub count : ℕ
  pub bytes : List ℕ
  pub silence : ℕ

-- a reception as it is kept: what of it the next frames need, and the request that is staged with its last part
pub record ReceivingView : Type 0 where
  pub seen : Receiving
  pub staged : Option Request

-- how many bytes came with the First and so many Consecutives
abbrev pub kept_bytes : DataLength → ℕ → ℕ → ℕ
kept_bytes rx_dl len count = min len (gone_with rx_dl len count)

-- after the First
abbrev pub begun_receiving : ℕ → DataLength → List ℕ → Receiving
begun_receiving len rx_dl head =
    record { len = len; rx_dl = rx_dl; count = 0; bytes = head; silence = 0 }

-- a Consecutive of this number and size is the next one: it has as many bytes as the frames of its message, or at least what is left
abbrev pub expects : Receiving → ℕ → ℕ → Bool
expects p sequence_number size =
    (sequence_number == (p.count + 1) % 16)
    && nat_le (min (in_bytes p.rx_dl - 1) (p.len - gone_with p.rx_dl p.len p.count)) size
    && nat_le size (in_bytes p.rx_dl - 1)

abbrev pub with_bytes : Receiving → List ℕ → Receiving
with_bytes p part =
    record { len = p.len; rx_dl = p.rx_dl; count = p.count + 1; bytes = take p.len (p.bytes ++ part); silence = 0 }

abbrev pub is_complete : Receiving → Bool
is_complete p = p.count == consecutive_count p.rx_dl p.len

-- with a further Consecutive; a wrong one ends the reception
abbrev pub with_consecutive : ℕ → List ℕ → Receiving → Option Receiving
with_consecutive sequence_number part p =
    if expects p sequence_number (length part) then Some (with_bytes p part) else None

-- so many ticks later
abbrev pub ticks_later : ℕ → ℕ → Receiving → Option Receiving
ticks_later n_cr n p =
    if nat_lt (p.silence + n) n_cr
    then Some (record { len = p.len; rx_dl = p.rx_dl; count = p.count; bytes = p.bytes; silence = p.silence + n })
    else None

abbrev pub one_tick_later : ℕ → Receiving → Option Receiving
one_tick_later n_cr p = ticks_later n_cr 1 p

-- what stays open: a message that is complete is given away
abbrev pub if_open : Option Receiving → Option Receiving
if_open None = None
if_open (Some p) = if is_complete p then None else Some p

abbrev pub if_complete : Option Receiving → Option (List ℕ)
if_complete None = None
if_complete (Some p) = if is_complete p then Some p.bytes else None

-- the reception after a frame
abbrev pub open_after : Option Receiving → Kind → Option Receiving
open_after o (Single payload) = None
open_after o (First len rx_dl head) = Some (begun_receiving len rx_dl head)
open_after o Overflow = None
open_after o (Consecutive sequence_number part) = if_open (option_and_then (with_consecutive sequence_number part) o)
open_after o (FlowControl flow_status block_size st_min) = o
open_after o Ignored = o

-- the message that a frame completes
abbrev pub completed_by : Option Receiving → Kind → Option (List ℕ)
completed_by o (Single payload) = Some payload
completed_by o (First len rx_dl head) = None
completed_by o Overflow = None
completed_by o (Consecutive sequence_number part) =
    if_complete (option_and_then (with_consecutive sequence_number part) o)
completed_by o (FlowControl flow_status block_size st_min) = None
completed_by o Ignored = None

-- the message that a frame completes takes memory where it is copied: all but that of a SingleFrame of up to 8 bytes
abbrev pub needs_copy : Option Receiving → Kind → Bool
needs_copy o (Single payload) = nat_lt 8 (length payload)
needs_copy o (First len rx_dl head) = false
needs_copy o Overflow = false
needs_copy o (Consecutive sequence_number part) = is_some (completed_by o (Consecutive sequence_number part))
needs_copy o (FlowControl flow_status block_size st_min) = false
needs_copy o Ignored = false

-- a block of the reception is whole, and more is to come
abbrev pub ends_block : LinkSetup → Receiving → Bool
ends_block s p = nat_lt 0 s.block_size && (p.count % s.block_size == 0)
    && nat_lt p.count (consecutive_count p.rx_dl p.len)

abbrev pub go_on : LinkSetup → List ℕ
go_on s = padded s.framing.pad (flow_bytes 0 s.block_size s.st_min)

abbrev pub block_answer : LinkSetup → Option Receiving → Option (List ℕ)
block_answer s None = None
block_answer s (Some p) = if ends_block s p then Some (go_on s) else None

-- the flow control that answers a frame
abbrev pub granted_by : LinkSetup → Option Receiving → Kind → Option (List ℕ)
granted_by s o (Single payload) = None
granted_by s o (First len rx_dl head) = Some (go_on s)
granted_by s o Overflow = Some (padded s.framing.pad (flow_bytes 2 0 0))
granted_by s o (Consecutive sequence_number part) =
    block_answer s (option_and_then (with_consecutive sequence_number part) o)
granted_by s o (FlowControl flow_status block_size st_min) = None
granted_by s o Ignored = None

-- what a receiver is
pub record ReceiverState : Type 0 where
  pub partial : Option Receiving
  -- the bytes for which it has room
  pub room : ℕ
  -- the request that is staged, to be lent
  pub staged : Option Request

abbrev pub ask_of : Bool → Option (List ℕ) → Option Request
ask_of functional None = None
ask_of functional (Some message) = Some (request_of functional message)
