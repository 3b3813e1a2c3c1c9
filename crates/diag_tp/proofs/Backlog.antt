-- The frames that are due are of messages, but for flow control.
use Rattle.std.proofs.lemmas.Bool.{cases_Bool, cases_lt}
use Rattle.std.proofs.Common.{inl, inr, ◌≡◌, ℕ, zero, suc, ◌+◌, ◌≤◌, ◌/◌, ◌%◌, false, cond, List, [], ◌∷◌, ◌++◌, length, take, drop, refl, ◌∙◌, ap, arith}
use Rattle.std.specs.Prelude.{Option, Some, None, map, sum_by, nat_le, ◌==◌, option_to_list, not}
use Rattle.std.proofs.lemmas.List.Sums.{sum_by-cons}
use Rattle.std.proofs.Math.Seq.{drop-append_seam}
use Rattle.std.proofs.lemmas.Bool.Decides.{nat_tests}
use Rattle.diag_can.specs.Event.{Event}
use Rattle.diag_pdu.specs.declared.framing.Framing.{Framing}
use Rattle.diag_pdu.specs.Length.{single_most}
use Rattle.diag_pdu.specs.declared.setup.LinkSetup.{LinkSetup}
use Rattle.diag_sides.specs.declared.sending.Sending.{Sending}
use Rattle.diag_tp.specs.declared.sent.Sent.{Sent}
use Rattle.diag_pdu.specs.Cut.{counted_from, head_size, consecutive_count, filled, single_bytes, first_bytes, consecutive_bytes, part_of, cut, frames_of}
use Rattle.diag_tp.specs.Moments.{last_time}
use Rattle.diag_tp.specs.Wire.{Placed, stamped, wire}
use Rattle.diag_tp.specs.State.{LinkState, due}
use Rattle.diag_sides.specs.Sender.{SenderState, Settled, frame_count, fields_left, one_on, once_gone, begun_sending, started, settled_in, settled}
use Rattle.diag_tp.specs.Link.{StandsFor, is_flow, IsFlow, message_frames, frames_left}
use Rattle.diag_pdu.proofs.CutFrames.{filled-cons, cut-short, cut-long, frames-count}
use Rattle.diag_tp.proofs.Numbers.{left, settled-counts}
use Rattle.diag_tp.proofs.History.{frames-left}

-- P holds of each of these
abbrev Each : {X : Type 0} → (X → Type 0) → List X → Type 0
Each P [] = Unit {0}
Each P (x ∷ xs) = P x × Each P xs

Each-drop : {X : Type 0} (P : X → Type 0) (n : ℕ) (xs : List X) → Each P xs → Each P (drop n xs)
Each-drop P zero xs h = h
Each-drop P (suc n) [] h = tt
Each-drop P (suc n) (x ∷ xs) h = Each-drop P n xs h.1

abbrev IsOfMessage : List ℕ → Type 0
IsOfMessage bytes = is_flow bytes ≡ false

by_control : (f : Framing) (control : ℕ) (part : List ℕ) → (control / 16 == 3) ≡ false → IsOfMessage (filled f (control ∷ part))
by_control f control part h = rw (filled-cons f control part) h

cut-rest : (f : Framing) (P : List ℕ) (a n : ℕ) → Each IsOfMessage (map (λ i. filled f (consecutive_bytes i (part_of f.tx_dl P i))) (counted_from a n))
cut-rest f P a zero = tt
cut-rest f P a (suc n) =
    let other : ((32 + a % 16) / 16 == 3) ≡ false = let two : (32 + a % 16) / 16 ≡ 2 = omega arith in rw two refl in
    (by_control f (32 + a % 16) (part_of f.tx_dl P a) other, cut-rest f P (suc a) n)

first-message : (f : Framing) (len : ℕ) (head : List ℕ) → IsOfMessage (filled f (first_bytes len head))
first-message f len head = grind (arith, nat_tests, by_control)

lone-message : (f : Framing) (P : List ℕ) → IsOfMessage (filled f (single_bytes P))
lone-message f P = elim (cases_Bool (nat_le (length P) 7)) [
  | inl t ↦
      let short : length P ≤ 7 = grind (arith, nat_tests) in
      let none : length P / 16 ≡ 0 = omega arith in
      rw t (by_control f (length P) P (rw none refl))
  | inr e ↦ rw e (by_control f 0 (length P ∷ P) refl)
]

cut-message : (f : Framing) (P : List ℕ) → Each IsOfMessage (cut f P)
cut-message f P = elim (cases_lt (single_most f.tx_dl) (length P)) [
  | inr short ↦ rw (cut-short f P short) (lone-message f P, tt)
  | inl long ↦
      rw (cut-long f P long)
      (first-message f (length P) (take (head_size f.tx_dl (length P)) P), cut-rest f P 1 (consecutive_count f.tx_dl (length P)))
]

gone-message : (k : ℕ) (frames : List (List ℕ)) (c : Sending) (W : List (List ℕ)) (next : Settled) → Each IsOfMessage frames → Each IsOfMessage next.due
    → Each IsOfMessage (once_gone k frames c W next).due
gone-message (suc k) (f ∷ []) c W next h n = (h.0, n)
gone-message (suc k) (f ∷ g ∷ frames) c W next h n = (h.0, gone-message k (g ∷ frames) (one_on c) W next h.1 n)
gone-message k frames c W next h n = tt

started-message : (s : LinkSetup) (W : List (List ℕ)) → Each IsOfMessage (started s W).due
started-message s [] = tt
started-message s (P ∷ W) = gone-message 1 (cut s.framing P) (begun_sending s P) W (started s W) (cut-message s.framing P) (started-message s W)

settled-message : (s : LinkSetup) (r : SenderState) → Each IsOfMessage (settled s r).due
settled-message s r = go r.current
  where
    go : (cur : Option Sending) → Each IsOfMessage (settled_in s cur r.waiting).due
    go None = started-message s r.waiting
    go (Some c) =
        gone-message c.due (drop c.next (cut s.framing c.message)) c r.waiting (started s r.waiting)
        (Each-drop IsOfMessage c.next (cut s.framing c.message) (cut-message s.framing c.message)) (started-message s r.waiting)

-- how many of the frames that are due are of messages
message-count : (s : LinkSetup) (t : ℕ) (frames : List (List ℕ)) → Each IsOfMessage frames → message_frames (map (stamped s t) frames) ≡ length frames
message-count s t [] h = refl
message-count s t (bytes ∷ frames) h =
    let rest = message-count s t frames h.1 in
    let all = sum_by-cons (λ (f : Sent). cond (not (is_flow f.frame.bytes)) 1 0) (stamped s t bytes) (map (stamped s t) frames) in
    let one = h.0 in
    grind (arith, rest, all, one)

due-count : (s : LinkSetup) (t : ℕ) (g : Option (List ℕ)) (frames : List (List ℕ)) → IsFlow g → Each IsOfMessage frames
    → message_frames (map (stamped s t) (option_to_list g ++ frames)) ≡ length frames
due-count s t g frames h is = grind (arith, message-count, sum_by-cons {X = Sent})

-- what a link has left, by the definitions
pub left_all : (s : LinkSetup) (link : LinkState) (E : List Event) (A : List Placed) (Q : List Sent) → IsFlow link.grant → StandsFor s link E A Q →
    left link.setup link.sender ≡ frames_left s E A Q
left_all s link E A Q g h =
    let rest : drop (length Q) (wire s E A) ≡ map (stamped s (last_time E)) (due link) = rw (← h.out) (drop-append_seam Q _) in
    let count = ap message_frames rest ∙ due-count s (last_time E) link.grant _ g (settled-message link.setup link.sender) in
    let others = frames-left s link E A Q h in
    let all = settled-counts link.setup link.sender in
    let same = ap (λ t. left t (settled link.setup link.sender).left) h.set in
    omega arith

-- what the fields of a sender have left
frames-same : (s : LinkSetup) (W : List (List ℕ)) → sum_by (frames_of s.framing.tx_dl) W ≡ sum_by (frame_count s) W
frames-same s [] = refl
frames-same s (P ∷ W) =
    let here = sum_by-cons (frames_of s.framing.tx_dl) P W in
    let there = sum_by-cons (frame_count s) P W in
    let one = frames-count s.framing P in
    let rest = frames-same s W in omega arith

pub fields_are_left : (s : LinkSetup) (r : SenderState) → fields_left s.framing.tx_dl r.current + sum_by (frames_of s.framing.tx_dl) r.waiting ≡ left s r
fields_are_left s r = grind (arith, frames-same, frames-count)
