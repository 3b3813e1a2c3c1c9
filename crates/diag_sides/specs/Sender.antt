-- What a sender keeps: of the current message no more than the next moments need. `settled` is what is due of it, and what is
-- kept once that has gone.
use Rattle.std.specs.Prelude.{◌≡◌, ◌<◌, ◌≤◌, ℕ, zero, suc, ◌+◌, ◌-◌, ◌==◌, nat_le, if◌then◌else◌, List, [], ◌∷◌, ◌++◌, length, drop, slice_get, Option, Some, None}
use Rattle.diag_pdu.specs.declared.setup.LinkSetup.{LinkSetup}
use Rattle.diag_pdu.specs.declared.framing.Framing.{Framing}
use Rattle.diag_pdu.specs.declared.length.DataLength.{DataLength}
use Rattle.diag_sides.specs.declared.sending.Phase.{Phase}
use Rattle.diag_sides.specs.declared.sending.Phase.TheVariants.{AwaitsFlow, InBlock}
use Rattle.diag_sides.specs.declared.sending.Sending.{Sending}
use Rattle.diag_pdu.specs.Cut.{cut, frames_of}
use Rattle.diag_sides.specs.Flow.{Decision, Go, Wait, GiveUp, block_size}

-- what a sender keeps
pub record SenderState : Type 0 where
  -- the message that is being sent
  pub current : Option Sending
  -- the replies behind it
  pub waiting : List (List ℕ)

-- the frames that are due now, in order, and what is kept once they have gone: then those that wait have not begun
pub record Settled : Type 0 where
  pub due : List (List ℕ)
  pub left : SenderState

abbrev pub frame_count : LinkSetup → List ℕ → ℕ
frame_count s P = length (cut s.framing P)

-- the frames of the current message that have not gone
abbrev pub current_left : LinkSetup → Option Sending → ℕ
current_left s None = 0
current_left s (Some c) = frame_count s c.message - c.next

abbrev pub kept_as : Option Sending → List (List ℕ) → SenderState
kept_as current W = record { current = current; waiting = W }

-- nothing is due
abbrev pub at_rest : Option Sending → List (List ℕ) → Settled
at_rest current W = record { due = []; left = kept_as current W }

abbrev pub before_these : List (List ℕ) → Settled → Settled
before_these frames after = record { due = frames ++ after.due; left = after.left }

-- a message after its next frame
abbrev pub one_on : Sending → Sending
one_on c = record { message = c.message; next = c.next + 1; due = c.due - 1; phase = c.phase }

-- so many of these frames, which are left of a message, go: after its last one comes what is next
abbrev pub once_gone : ℕ → List (List ℕ) → Sending → List (List ℕ) → Settled → Settled
once_gone zero frames c W next = at_rest (Some c) W
once_gone (suc k) [] c W next = at_rest (Some c) W
once_gone (suc k) (f ∷ []) c W next = before_these (f ∷ []) next
once_gone (suc k) (f ∷ g ∷ frames) c W next =
    before_these (f ∷ []) (once_gone k (g ∷ frames) (one_on c) W next)

-- a message that begins
abbrev pub begun_sending : LinkSetup → List ℕ → Sending
begun_sending s P = record { message = P; next = 0; due = 1; phase = AwaitsFlow s.n_bs }

-- the sender is free: the first of these replies begins, and after one of a single frame the next
abbrev pub started : LinkSetup → List (List ℕ) → Settled
started s [] = at_rest None []
started s (P ∷ W) = once_gone 1 (cut s.framing P) (begun_sending s P) W (started s W)

abbrev pub settled_in : LinkSetup → Option Sending → List (List ℕ) → Settled
settled_in s None W = started s W
settled_in s (Some c) W = once_gone c.due (drop c.next (cut s.framing c.message)) c W (started s W)

abbrev pub settled : LinkSetup → SenderState → Settled
settled s sender = settled_in s sender.current sender.waiting

-- after a frame of a block of which so many are left
abbrev pub within_block : LinkSetup → ℕ → ℕ → Phase
within_block s rest gap = if rest == 0 then AwaitsFlow s.n_bs else InBlock rest gap gap

abbrev pub with : Sending → ℕ → Phase → Sending
with c due phase = record { message = c.message; next = c.next; due = due; phase = phase }

abbrev pub in_phase : Sending → Phase → Sending
in_phase c phase = with c c.due phase

-- a message of which nothing is due, so many ticks later
abbrev pub tick_fields : LinkSetup → ℕ → Sending → Phase → Option Sending
tick_fields s n c (AwaitsFlow ticks) =
    if nat_le ticks n then None else Some (in_phase c (AwaitsFlow (ticks - n)))
tick_fields s n c (InBlock rest gap ticks) =
    if nat_le ticks n
    then Some (with c 1 (within_block s (rest - 1) gap))
    else Some (in_phase c (InBlock rest gap (ticks - n)))

abbrev pub ticked_fields : LinkSetup → ℕ → Option Sending → Option Sending
ticked_fields s n None = None
ticked_fields s n (Some c) = tick_fields s n c c.phase

-- and after a FlowControl
abbrev pub block_fields : LinkSetup → Sending → ℕ → ℕ → Sending
block_fields s c b gap =
    if gap == 0 then with c b (AwaitsFlow s.n_bs) else with c 1 (within_block s (b - 1) gap)

abbrev pub decided_fields : LinkSetup → Sending → Decision → Option Sending
decided_fields s c (Go block gap) =
    Some (block_fields s c (block_size block (frames_of s.framing.tx_dl c.message - c.next)) gap)
decided_fields s c Wait = Some (in_phase c (AwaitsFlow s.n_bs))
decided_fields s c GiveUp = None

abbrev pub flow_fields : LinkSetup → Sending → Decision → Phase → Option Sending
flow_fields s c choice (AwaitsFlow ticks) = decided_fields s c choice
flow_fields s c choice (InBlock rest gap ticks) = Some c

abbrev pub flowed_fields : LinkSetup → Decision → Option Sending → Option Sending
flowed_fields s choice None = None
flowed_fields s choice (Some c) = flow_fields s c choice c.phase

-- one more reply: it begins where the sender is free, else it waits
abbrev pub replied_in : LinkSetup → List ℕ → List (List ℕ) → Option Sending → List (List ℕ) → Settled
replied_in s P due None W = before_these due (started s (P ∷ []))
replied_in s P due (Some c) W = record { due = due; left = kept_as (Some c) (W ++ P ∷ []) }

abbrev pub replied : LinkSetup → List ℕ → Settled → Settled
replied s P now = replied_in s P now.due now.left.current now.left.waiting

-- a message of which so many frames are gone, in a phase
abbrev pub kept : List ℕ → ℕ → Phase → Sending
kept P gone phase = record { message = P; next = gone; due = 0; phase = phase }

-- what the sender has in memory: what it keeps, the replies for which there is room, and how it makes its frames
pub record SenderFields : Type 0 where
  pub current : Option Sending
  pub waiting : List (List ℕ)
  pub room : ℕ
  pub framing : Framing

-- some frame of that length is left, and no more are due than are left
abbrev pub IsSound : DataLength → Sending → Type 0
IsSound d c = (c.next < frames_of d c.message) × (c.next + c.due ≤ frames_of d c.message)

-- the next frame is gone; after the last there is no message any more
abbrev pub one_gone : DataLength → Sending → Option Sending
one_gone d c = if c.next + 1 == frames_of d c.message then None else Some (one_on c)

-- the sender goes on from this message
abbrev pub goes_on_from : LinkSetup → Sending → List (List ℕ) → SenderFields → List ℕ → Type 0
goes_on_from s c W after frame =
    (0 < c.due)
    × ((slice_get (cut s.framing c.message) c.next ≡ Some frame)
    × ((after.current ≡ one_gone s.framing.tx_dl c) × (after.waiting ≡ W)))

-- the message and the replies that wait, where the first of these begins if there is no message
abbrev pub IsNext : LinkSetup → Option Sending → List (List ℕ) → SenderFields → List ℕ → Type 0
IsNext s None [] after frame = ⊥
IsNext s None (P ∷ W) after frame = goes_on_from s (begun_sending s P) W after frame
IsNext s (Some c) W after frame = goes_on_from s c W after frame

abbrev pub IsNextFrame : LinkSetup → SenderFields → SenderFields → List ℕ → Type 0
IsNextFrame s before after frame = IsNext s before.current before.waiting after frame

-- the frames of the message in memory that have not gone
abbrev pub fields_left : DataLength → Option Sending → ℕ
fields_left d None = 0
fields_left d (Some c) = frames_of d c.message - c.next
