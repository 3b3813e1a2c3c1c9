-- What a link's sender keeps of the events and answers: how it goes on with an event, and of which histories it is what is left.
use Rattle.std.specs.Prelude.{◌≡◌, ◌<◌, ◌≤◌, max, map, ℕ, ◌+◌, ◌-◌, List, [], ◌∷◌, length, Option, Some, None}
use Rattle.diag_can.specs.Event.{Event, Physical, Functional, Ticks}
use Rattle.diag_pdu.specs.Kind.{Kind, Single, First, Overflow, Consecutive, FlowControl, Ignored, kind}
use Rattle.diag_pdu.specs.declared.setup.LinkSetup.{LinkSetup}
use Rattle.diag_sides.specs.declared.sending.Phase.TheVariants.{AwaitsFlow, InBlock}
use Rattle.diag_sides.specs.declared.sending.Sending.{Sending}
use Rattle.diag_sides.specs.Flow.{Decision, flow_decision}
use Rattle.diag_sides.specs.Sender.{SenderState, frame_count, kept_as, kept, ticked_fields, flowed_fields}
use Rattle.diag_tp.specs.Moments.{now}
use Rattle.diag_tp.specs.Sending.{Stand, Waits, Sends, Over, went, course, end_of}
use Rattle.diag_tp.specs.Wire.{Placed}

-- a sender after a FlowControl, and after so many ticks
abbrev pub sender_flow : LinkSetup → Decision → Option Sending → List (List ℕ) → SenderState
sender_flow s choice current W = kept_as (flowed_fields s choice current) W

abbrev pub sender_ticks : LinkSetup → ℕ → Option Sending → List (List ℕ) → SenderState
sender_ticks s n current W = kept_as (ticked_fields s n current) W

abbrev pub no_flow : Option Sending → List (List ℕ) → SenderState
no_flow current W = kept_as current W

abbrev pub sender_frame : LinkSetup → Kind → Option Sending → List (List ℕ) → SenderState
sender_frame s (FlowControl flow_status block_size st_min) current W =
    sender_flow s (flow_decision flow_status block_size st_min) current W
sender_frame s (Single payload) current W = no_flow current W
sender_frame s (First len rx_dl head) current W = no_flow current W
sender_frame s Overflow current W = no_flow current W
sender_frame s (Consecutive sequence_number part) current W = no_flow current W
sender_frame s Ignored current W = no_flow current W

-- a moment, of which the sender sees the physical Flows and the tick: a history has ticks one by one
abbrev pub sender_event : LinkSetup → Event → Option Sending → List (List ℕ) → SenderState
sender_event s (Physical bytes) current W = sender_frame s (kind bytes s.max_request) current W
sender_event s (Functional bytes) current W = no_flow current W
sender_event s (Ticks n) current W = sender_ticks s 1 current W

-- what the sender keeps at a time of a message that stands so
abbrev pub shown_of : LinkSetup → ℕ → List ℕ → ℕ → Stand → Option Sending
shown_of s t P gone (Waits since) = Some (kept P gone (AwaitsFlow (since + s.n_bs - t)))
shown_of s t P gone (Sends last gap rest) =
    Some (kept P gone (InBlock rest gap (last + gap - t)))
shown_of s t P gone (Over moment) = None

abbrev pub messages_of : List Placed → List (List ℕ)
messages_of A = map (λ answer. answer.message) A

abbrev pub AfterEnd : (ℕ → Type 0) → Type 0 → Option ℕ → Type 0
AfterEnd later here None = here
AfterEnd later here (Some e) = later e

-- this is what is left of these answers, the first of which can start from a moment on: the one that isn't over is current
unfoldable pub IsAt : LinkSetup → List Event → List Placed → ℕ → SenderState → Type 0
IsAt s past [] e left = (e ≤ length past) × (left ≡ kept_as None [])
IsAt s past (answer ∷ later) e left =
    let P = answer.message in
    let c = course s past (frame_count s P) (max answer.moment e) in
    (e ≤ length past) × AfterEnd (λ f. IsAt s past later f left)
    ((went c < frame_count s P)
    × (left ≡ kept_as (shown_of s (now past) P (went c) c.stand) (messages_of later))) (end_of c.stand)
