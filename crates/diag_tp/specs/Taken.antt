-- A frame between the two halves in which a link takes it: what it asks, and what it does once that was asked.
use Rattle.std.specs.Prelude.{◌≡◌, ◌<◌, ◌≤◌, ◌⊎◌, ℕ, IsFalse, IsTrue, List, length, Option, None, Some, is_some, if◌then◌else◌}
use Rattle.diag_can.specs.Event.{Event, Physical, Functional, Ticks}
use Rattle.diag_pdu.specs.Kind.{Kind, Single, First, Overflow, Consecutive, FlowControl, Ignored, kind, says, single_only, room_to_begin, IsRead}
use Rattle.diag_pdu.specs.declared.setup.LinkSetup.{LinkSetup}
use Rattle.diag_pdu.specs.declared.step.Request.{Request}
use Rattle.diag_tp.specs.declared.taken.Taken.{Taken}
use Rattle.diag_tp.specs.declared.taken.Taken.TheVariants as left
use Rattle.diag_sides.specs.declared.sending.Sending.{Sending}
use Rattle.diag_sides.specs.Receiver.{Receiving, open_after, completed_by, granted_by}
use Rattle.diag_sides.specs.Sender.{SenderState}
use Rattle.diag_tp.specs.Kept.{no_flow, sender_frame}
use Rattle.diag_tp.specs.State.{LinkState, LinkView}
use Rattle.diag_tp.specs.Link.{is_frame, has_reply_room, IsReadHere}

-- what is left of a frame once its request stands with the link: nothing, the end of a reception, or all that its kind does
pub data Left : Type 0 where
  OfFunctional : Left
  OfIgnored : Left
  OfSingle : Left
  OfLast : Left
  OfKind : Kind → Left

abbrev pub left_in : Taken → Left
left_in left.Functional = OfFunctional
left_in left.Ignored = OfIgnored
left_in left.Single = OfSingle
left_in left.Last = OfLast
left_in (left.Other pci) = OfKind (says pci)

-- of a Single nothing is left but that it ends a reception, and of the last Consecutive of a message the same
abbrev pub left_of_kind : Option Receiving → Kind → Left
left_of_kind o (Single payload) = OfSingle
left_of_kind o (First len rx_dl head) = OfKind (First len rx_dl head)
left_of_kind o Overflow = OfKind Overflow
left_of_kind o (Consecutive sequence_number part) =
    if is_some (completed_by o (Consecutive sequence_number part))
    then OfLast
    else OfKind (Consecutive sequence_number part)
left_of_kind o (FlowControl flow_status block_size st_min) = OfKind (FlowControl flow_status block_size st_min)
left_of_kind o Ignored = OfKind Ignored

-- what is left of an event, where this reception is open; a functional frame changes nothing
abbrev pub left_of : LinkSetup → Option Receiving → Event → Left
left_of s o (Physical bytes) = left_of_kind o (kind bytes s.max_request)
left_of s o (Functional bytes) =
    if is_some (completed_by None (single_only (kind bytes s.max_request)))
    then OfFunctional
    else OfIgnored
left_of s o (Ticks n) = OfIgnored

-- this is left of the frame, as this link reads it
pub record IsTaken (link : LinkState) (event : Event) (taken : Taken) : Type 0 where
  pub frame : IsTrue (is_frame event)
  pub read : IsReadHere link.setup event
  pub is : left_in taken ≡ left_of link.setup link.partial event

-- room was made for what is left of a frame
abbrev pub FitsIn : LinkView → Taken → Type 0
FitsIn view left.Functional = Unit {0}
FitsIn view left.Ignored = Unit {0}
FitsIn view left.Single = Unit {0}
FitsIn view left.Last = Unit {0}
FitsIn view (left.Other pci) =
    IsRead view.state.setup.max_request (says pci) × (room_to_begin (says pci) ≤ view.room)

-- what a frame needs that is begun may be lacking: a First needs room for its message, and a Single of more than 8 bytes, which is
-- noted, memory
abbrev pub LacksFor : ℕ → Kind → Type 0
LacksFor room (Single payload) = 8 < length payload
LacksFor room (First len rx_dl head) = room < len
LacksFor room Overflow = ⊥
LacksFor room (Consecutive sequence_number part) = ⊥
LacksFor room (FlowControl flow_status block_size st_min) = ⊥
LacksFor room Ignored = ⊥

abbrev pub LacksMemory : LinkView → Event → Type 0
LacksMemory view (Physical bytes) = LacksFor view.room (kind bytes view.state.setup.max_request)
LacksMemory view (Functional bytes) = LacksFor view.room (single_only (kind bytes view.state.setup.max_request))
LacksMemory view (Ticks n) = ⊥

-- or room for one more reply
abbrev pub LacksToBegin : LinkView → Event → Type 0
LacksToBegin view event = LacksMemory view event ⊎ IsFalse (has_reply_room view)

-- the request that the frame completes: noted by the link, or staged
abbrev pub asked_in : LinkView → Taken → Option Request
asked_in view left.Functional = Some view.noted
asked_in view left.Ignored = None
asked_in view left.Single = Some view.noted
asked_in view left.Last = view.staged
asked_in view (left.Other pci) = None

-- what it does to the reception, to the flow control that is due, and to the sender
abbrev pub reception_after : Option Receiving → Left → Option Receiving
reception_after o OfFunctional = o
reception_after o OfIgnored = o
reception_after o OfSingle = None
reception_after o OfLast = None
reception_after o (OfKind k) = open_after o k

abbrev pub granted_after : LinkSetup → Option Receiving → Left → Option (List ℕ)
granted_after s o OfFunctional = None
granted_after s o OfIgnored = None
granted_after s o OfSingle = None
granted_after s o OfLast = None
granted_after s o (OfKind k) = granted_by s o k

abbrev pub sender_after : LinkSetup → Left → Option Sending → List (List ℕ) → SenderState
sender_after s OfFunctional current W = no_flow current W
sender_after s OfIgnored current W = no_flow current W
sender_after s OfSingle current W = no_flow current W
sender_after s OfLast current W = no_flow current W
sender_after s (OfKind k) current W = sender_frame s k current W

-- the link once what is left of a frame was taken
abbrev pub once_taken : Left → LinkState → LinkState
once_taken l link =
    record {
      setup = link.setup;
      now = link.now;
      partial = reception_after link.partial l;
      grant = granted_after link.setup link.partial l;
      sender = sender_after link.setup l link.sender.current link.sender.waiting;
    }

abbrev pub once_settled : Taken → LinkState → LinkState
once_settled taken link = once_taken (left_in taken) link
