-- What the words of a link's contract say of its fields.
use Rattle.std.proofs.Common.{◌≡◌, ℕ, ◌+◌, ◌<◌, ◌≤◌, Bool, List, ◌∷◌, length, inl, inr, ap, ap₂, ◌∙◌, arith, length-append}
use Rattle.std.specs.Prelude.{◌↔◌, ◌⊎◌, Option, IfSome, IsFalse, IsTrue, option_to_list}
use Rattle.std.proofs.lemmas.List.{nil_from_length}
use Rattle.std.proofs.lemmas.Bool.Decides.{nat_tests}
use Rattle.diag_can.specs.Event.{Event}
use Rattle.diag_pdu.specs.declared.setup.LinkSetup.{LinkSetup}
use Rattle.diag_pdu.specs.Cut.{frames_of}
use Rattle.diag_pdu.proofs.CutFrames.{frames-count}
use Rattle.diag_tp.specs.State.{LinkState, LinkView, due}
use Rattle.diag_sides.specs.Sender.{SenderState, settled, settled_in, replied, IsSound}
use Rattle.diag_sides.specs.declared.sending.Sending.{Sending}
use Rattle.diag_tp.specs.Kept.{sender_event, sender_ticks}
use Rattle.diag_tp.specs.Link.{pending, unsent, waiting_count, has_room, has_reply_room, KeepsRoom, KeepsReplyRoom, needed}
use Rattle.diag_tp.specs.Taken.{LacksMemory, LacksToBegin}
use Rattle.diag_tp.proofs.Numbers.{left, IsWithin, settled-counts, event_within, sender_ticks_within, replied-frames, replied-numbers}
use Rattle.diag_sides.proofs.Settled.{none-due, IsDrained, drained_fields, fields_drained}
use Rattle.diag_tp.proofs.History.{drained_parts}

pub room : (v : LinkView) (x : Event) → IsTrue (has_room v x) → needed v.state.setup x ≤ v.room
unfolding has_room
room v x h = grind (arith, nat_tests)

pub room_made : (v : LinkView) (x : Event) → needed v.state.setup x ≤ v.room → IsTrue (has_room v x)
unfolding has_room
room_made v x h = grind (arith, nat_tests)

pub reply_room : (v : LinkView) → IsTrue (has_reply_room v) → 0 < v.reply_room
unfolding has_reply_room
reply_room v h = grind (arith, nat_tests)

pub reply_room_made : (v : LinkView) → 0 < v.reply_room → IsTrue (has_reply_room v)
unfolding has_reply_room
reply_room_made v h = grind (arith, nat_tests)

-- less room is too little
pub room_lacks : (v : LinkView) (x : Event) → v.room < needed v.state.setup x → IsFalse (has_room v x)
unfolding has_room
room_lacks v x h = grind (arith, nat_tests)

pub reply_room_lacks : (v : LinkView) → v.reply_room ≡ 0 → IsFalse (has_reply_room v)
unfolding has_reply_room
reply_room_lacks v h = grind (arith, nat_tests)

pub begin_lacks : (v : LinkView) (x : Event) → LacksMemory v x ⊎ (v.reply_room ≡ 0) → LacksToBegin v x
begin_lacks v x (inl h) = inl h
begin_lacks v x (inr h) = inr (reply_room_lacks v h)

-- at the same settings no room is lost where it doesn't get less
pub keeps_room : (old new : LinkView) → new.state.setup ≡ old.state.setup → old.room ≤ new.room → KeepsRoom old new
keeps_room old new same more = grind (arith, room, room_made)

pub keeps_reply_room : (old new : LinkView) → old.reply_room ≤ new.reply_room → KeepsReplyRoom old new
keeps_reply_room old new more = grind (arith, reply_room, reply_room_made)

-- what is due, and what is left then
pub unsent-due : (link : LinkState) → unsent link ≡ length (due link) + left link.setup (settled link.setup link.sender).left
unfolding unsent
unsent-due link = grind (arith, length-append {A = List ℕ}, settled-counts)

pub pending_unsent : (link : LinkState) → pending link ≤ unsent link
unfolding pending
pending_unsent link = grind (arith, unsent-due)

-- a move of the sender within what it had, and at most so many grants
pub record Numbers (link link' : LinkState) (grants : ℕ) : Type 0 where
  pub frames : unsent link' ≤ unsent link + grants
  pub now : pending link' ≤ unsent link'
  pub replies : waiting_count link' ≤ waiting_count link

-- no more replies wait where no more are behind a sender of which nothing was due
pub waits_fewer : (link link' : LinkState) → pending link ≡ 0 → length link'.sender.waiting ≤ length link.sender.waiting
    → waiting_count link' ≤ waiting_count link
unfolding pending waiting_count
waits_fewer link link' drained h =
    let none = drained_parts link.grant (settled link.setup link.sender).due drained in
    let fewer = settled-counts link'.setup link'.sender in
    grind (arith, none-due, fewer)

pub within_numbers :
    (link link' : LinkState) (r : SenderState) (grants : ℕ) → pending link ≡ 0 → length (option_to_list link'.grant) ≤ grants → link'.setup ≡ link.setup
    → link'.sender ≡ r → IsWithin link.setup r (left link.setup link.sender) (length link.sender.waiting) → Numbers link link' grants
unfolding unsent
within_numbers link link' r grants drained few same sender h = grind (arith, pending_unsent, waits_fewer)

pub grant_few : (g : Option (List ℕ)) → length (option_to_list g) ≤ 1
grant_few g = grind arith

-- a frame, and ticks
pub fed_unsent : (link link' : LinkState) (x : Event) → pending link ≡ 0 → link'.setup ≡ link.setup
    → link'.sender ≡ sender_event link.setup x link.sender.current link.sender.waiting → unsent link' ≤ unsent link + 1
fed_unsent link link' x drained same sender =
    (within_numbers link link' _ 1 drained (grant_few link'.grant) same sender (event_within link.setup x link.sender.current link.sender.waiting)).frames

pub passed_unsent : (link link' : LinkState) (n : ℕ) → pending link ≡ 0 → link'.grant ≡ link.grant → link'.setup ≡ link.setup
    → link'.sender ≡ sender_ticks link.setup n link.sender.current link.sender.waiting → unsent link' ≤ unsent link
unfolding pending
passed_unsent link link' n drained grant same sender = grind (arith, drained_parts, within_numbers, sender_ticks_within)

-- a reply
pub answered_numbers : (link link' : LinkState) (P : List ℕ) → link'.grant ≡ link.grant
    → settled link'.setup link'.sender ≡ replied link.setup P (settled link.setup link.sender)
    → (pending link' ≤ pending link + 1) × (waiting_count link' ≤ waiting_count link + 1)
unfolding pending waiting_count
answered_numbers link link' P grant sender = grind (arith, replied-numbers, length-append {A = List ℕ})

-- and its frames are left at most
pub answered_unsent : (link link' : LinkState) (P : List ℕ) → link'.grant ≡ link.grant → link'.setup ≡ link.setup
    → settled link'.setup link'.sender ≡ replied link.setup P (settled link.setup link.sender)
    → unsent link' ≤ unsent link + frames_of link.setup.framing.tx_dl P
unfolding pending
answered_unsent link link' P grant same sender =
    let before = unsent-due link in
    let after = unsent-due link' in
    let frames = replied-frames link.setup P (settled link.setup link.sender) in
    let count = frames-count link.setup.framing P in
    let due' : length (due link') ≡ length (option_to_list link.grant) + length (replied link.setup P (settled link.setup link.sender)).due =
    length-append (option_to_list link'.grant) (settled link'.setup link'.sender).due ∙ ap₂ (λ g r. length (option_to_list g) + length r.due) grant sender in
    let due : length (due link) ≡ length (option_to_list link.grant) + length (settled link.setup link.sender).due =
    length-append (option_to_list link.grant) (settled link.setup link.sender).due in
    let left' : left link'.setup (settled link'.setup link'.sender).left ≡ left link.setup (replied link.setup P (settled link.setup link.sender)).left =
    ap₂ (λ s r. left s r.left) same sender in
    omega (arith, before, after, frames, count, due', due, left')

-- a frame that is handed out
pub handed_numbers : (link link' : LinkState) (bytes : List ℕ) → due link ≡ bytes ∷ due link'
    → (settled link'.setup link'.sender).left ≡ (settled link.setup link.sender).left → link'.setup ≡ link.setup →
    (pending link ≡ pending link' + 1) × (unsent link ≡ unsent link' + 1)
unfolding pending
handed_numbers link link' bytes less kept same = grind (arith, unsent-due)

pub waiting_same : (link link' : LinkState) → (settled link'.setup link'.sender).left ≡ (settled link.setup link.sender).left
    → waiting_count link' ≤ waiting_count link
unfolding waiting_count
waiting_same link link' e = grind arith

pub iff_then : {P Q R : Type 0} → P ↔ Q → Q ↔ R → P ↔ R
iff_then f g = (λ p. g.0 (f.0 p), λ r. f.1 (g.1 r))

-- drained, as a test says
pub drained_iff : (s : LinkSetup) (cur : Option Sending) (W : List (List ℕ)) (b : Bool) → IfSome cur (λ c. IsSound s.framing.tx_dl c) →
    (IsTrue b → IsDrained cur W) → (IsDrained cur W → IsTrue b) →
    (IsTrue b → length (settled_in s cur W).due ≡ 0) × (length (settled_in s cur W).due ≡ 0 → IsTrue b)
drained_iff s cur W b sound f g =
    (λ t. ap length (fields_drained s cur W (f t)), λ e. g (drained_fields s cur W sound (nil_from_length (settled_in s cur W).due e)))
