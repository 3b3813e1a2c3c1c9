-- What is left of a frame does what the frame does.
use Rattle.std.proofs.Common.{◌≡◌, ℕ, ◌+◌, ◌*◌, ◌/◌, ◌%◌, ◌≤◌, true, false, List, [], ◌∷◌, ◌++◌, length, take, drop, refl, ◌∙◌, ap, arith}
use Rattle.std.proofs.lemmas.List.{length-take-le}
use Rattle.std.specs.Prelude.{Bool, Option, None, IsTrue, ◌==◌, slice_index, sum_by, is_some, if◌then◌else◌}
use Rattle.std.proofs.lemmas.Bool.Decides.{nat_tests}
use Rattle.diag_can.specs.Event.{Event, Physical, Functional, Ticks}
use Rattle.diag_pdu.specs.Kind.{Kind, Single, Consecutive, Ignored, kind, single_kind, first_kind, flow_kind, single_only}
use Rattle.diag_pdu.specs.declared.length.DataLength.{DataLength}
use Rattle.diag_pdu.specs.Length.{length_of}
use Rattle.diag_pdu.specs.declared.setup.LinkSetup.{LinkSetup}
use Rattle.diag_tp.specs.declared.taken.Taken.{Taken}
use Rattle.diag_tp.specs.declared.sent.Sent.{Sent}
use Rattle.diag_sides.specs.declared.sending.Sending.{Sending}
use Rattle.diag_sides.specs.Receiver.{Receiving, if_open, if_complete, completed_by, block_answer}
use Rattle.diag_tp.specs.Kept.{sender_event}
use Rattle.diag_sides.specs.Sender.{frame_count, current_left}
use Rattle.diag_tp.specs.State.{LinkState}
use Rattle.diag_tp.specs.Wire.{Placed}
use Rattle.diag_tp.specs.Link.{is_frame, partial_after, grant_after, pending, StandsFor}
use Rattle.diag_tp.specs.Taken.{Left, OfFunctional, OfIgnored, OfKind, left_in, IsTaken, left_of_kind, left_of, reception_after, granted_after, sender_after, once_settled}
use Rattle.diag_tp.proofs.Numbers.{IsWithin}
use Rattle.diag_tp.proofs.History.{stands_fed}
use Rattle.diag_tp.proofs.Views.{Numbers, within_numbers, grant_few}

-- what completes a message ends the reception, and grants nothing
last-ends : (s : LinkSetup) (o : Option Receiving) → IsTrue (is_some (if_complete o)) → (if_open o ≡ None) × (block_answer s o ≡ None)
last-ends s o h = grind (arith, nat_tests)

-- a frame that completes nothing is left as its kind
pub taken_other : (o : Option Receiving) (k : Kind) → completed_by o k ≡ None → left_of_kind o k ≡ OfKind k
taken_other o k none = grind arith

-- the payload of a Single of at most 8 bytes stands behind its first byte
abbrev Stands : List ℕ → List ℕ → Type 0
Stands bytes payload = (1 + length payload ≤ length bytes) × (take (length payload) (drop 1 bytes) ≡ payload)

either : {P : Type 0} (b : Bool) (x y k : Kind) → (x ≡ k → P) → (y ≡ k → P) → (if b then x else y) ≡ k → P
either true x y k f g h = f h
either false x y k f g h = g h

single-stands : (n : ℕ) (bytes payload : List ℕ) → length bytes ≤ 8 → single_kind n bytes ≡ Single payload → Stands bytes payload
single-stands n [] payload few h = grind arith
single-stands n (control ∷ rest) payload few h = grind (arith, nat_tests, length-take-le {A = ℕ})

first-stands : (len max : ℕ) (rx_dl : Option DataLength) (bytes payload : List ℕ) → first_kind len rx_dl bytes max ≡ Single payload → Stands bytes payload
first-stands len max rx_dl bytes payload h = grind arith

flow-stands : (n : ℕ) (bytes payload : List ℕ) → flow_kind n bytes ≡ Single payload → Stands bytes payload
flow-stands n bytes payload h = grind arith

consecutive-stands : (n : ℕ) (part bytes payload : List ℕ) → Consecutive n part ≡ Single payload → Stands bytes payload
consecutive-stands n part bytes payload h = grind arith

ignored-stands : (bytes payload : List ℕ) → Ignored ≡ Single payload → Stands bytes payload
ignored-stands bytes payload h = grind arith

payload-stands : (bytes payload : List ℕ) (max : ℕ) → length bytes ≤ 8 → kind bytes max ≡ Single payload → Stands bytes payload
unfolding kind
payload-stands [] payload max few h = ignored-stands [] payload h
payload-stands (control ∷ rest) payload max few h =
    let bytes = control ∷ rest in
    either (control / 16 == 0) _ _ (Single payload) (single-stands (control % 16) bytes payload few)
    (either (control / 16 == 1) _ _ (Single payload) (first-stands (control % 16 * 256 + slice_index bytes 1) max (length_of (length bytes)) bytes payload)
    (either (control / 16 == 2) _ _ (Single payload) (consecutive-stands (control % 16) rest bytes payload)
    (either (control / 16 == 3) _ _ (Single payload) (flow-stands (control % 16) bytes payload) (ignored-stands bytes payload)))) h

pub payload_inside : (bytes payload : List ℕ) (max : ℕ) → length bytes ≤ 8 → kind bytes max ≡ Single payload → 1 + length payload ≤ length bytes
payload_inside bytes payload max few h = (payload-stands bytes payload max few h).0

pub payload_same : (bytes payload : List ℕ) (max : ℕ) → length bytes ≤ 8 → kind bytes max ≡ Single payload → take (length payload) (drop 1 bytes) ≡ payload
payload_same bytes payload max few h = (payload-stands bytes payload max few h).1

-- what is left of an event does what the event does
record Does (s : LinkSetup) (o : Option Receiving) (l : Left) (e : Event) (current : Option Sending) (W : List (List ℕ)) : Type 0 where
  reception : reception_after o l ≡ partial_after s o e
  granted : granted_after s o l ≡ grant_after s o e
  sender : sender_after s l current W ≡ sender_event s e current W

frame-does : (s : LinkSetup) (o : Option Receiving) (bytes : List ℕ) (k : Kind) (current : Option Sending) (W : List (List ℕ)) → kind bytes s.max_request ≡ k
    → Does s o (left_of_kind o k) (Physical bytes) current W
frame-does s o bytes k current W e = grind (arith, last-ends)

functional-does : (s : LinkSetup) (o : Option Receiving) (bytes : List ℕ) (single : Bool) (current : Option Sending) (W : List (List ℕ))
    → Does s o (if single then OfFunctional else OfIgnored) (Functional bytes) current W
functional-does s o bytes single current W = grind arith

does : (s : LinkSetup) (o : Option Receiving) (e : Event) (current : Option Sending) (W : List (List ℕ)) → IsTrue (is_frame e)
    → Does s o (left_of s o e) e current W
does s o (Physical bytes) current W h = frame-does s o bytes (kind bytes s.max_request) current W refl
does s o (Functional bytes) current W h = functional-does s o bytes (is_some (completed_by None (single_only (kind bytes s.max_request)))) current W
does s o (Ticks n) current W h = cc

-- what is left leads to where the frame does
pub settles : (s : LinkSetup) (link : LinkState) (E : List Event) (A : List Placed) (Q : List Sent) (e : Event) (taken : Taken) → IsTaken link e taken
    → pending link ≡ 0 → StandsFor s link E A Q → StandsFor s (once_settled taken link) (E ++ e ∷ []) A Q
settles s link E A Q e taken here drained h =
    let did = does link.setup link.partial e link.sender.current link.sender.waiting here.frame in
    stands_fed s link (once_settled taken link) E A Q e here.frame here.read drained
    (λ none. ap (granted_after link.setup link.partial) here.is ∙ did.granted)
    (ap (reception_after link.partial) here.is ∙ did.reception)
    refl refl
    (ap (λ l. sender_after link.setup l link.sender.current link.sender.waiting) here.is ∙ did.sender)
    h

within-left : (s : LinkSetup) (l : Left) (current : Option Sending) (W : List (List ℕ)) →
    IsWithin s (sender_after s l current W) (current_left s current + sum_by (frame_count s) W) (length W)
within-left s l current W = grind arith

pub settled-numbers : (link : LinkState) (taken : Taken) → pending link ≡ 0 → Numbers link (once_settled taken link) 1
settled-numbers link taken drained =
    within_numbers link (once_settled taken link) _ 1 drained (grant_few _) refl refl (within-left link.setup (left_in taken) link.sender.current link.sender.waiting)
