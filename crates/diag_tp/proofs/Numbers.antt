-- How many frames are left, and how many replies wait, after each move of a link.
use Rattle.std.proofs.Common.{◌≡◌, ℕ, suc, ◌+◌, ◌≤◌, List, [], ◌∷◌, length, drop, refl, arith, length-append, length-drop}
use Rattle.std.specs.Prelude.{Option, Some, None, sum_by}
use Rattle.std.proofs.lemmas.List.Sums.{sum_by-append, sum_by-cons}
use Rattle.diag_can.specs.Event.{Event}
use Rattle.diag_pdu.specs.declared.setup.LinkSetup.{LinkSetup}
use Rattle.diag_sides.specs.declared.sending.Sending.{Sending as Current}
use Rattle.diag_pdu.specs.Cut.{cut}
use Rattle.diag_sides.specs.Sender.{SenderState, Settled, frame_count, current_left, begun_sending, one_on, once_gone, started, settled_in, settled, replied, replied_in}
use Rattle.diag_tp.specs.Kept.{sender_ticks, sender_event}

-- the frames of what a sender keeps that have not gone
abbrev pub left : LinkSetup → SenderState → ℕ
left s r = current_left s r.current + sum_by (frame_count s) r.waiting

-- they are those that are due, and those that are left then; and no more replies wait
abbrev pub Counts : LinkSetup → ℕ → ℕ → Settled → Type 0
Counts s all many r = (length r.due + left s r.left ≡ all) × (length r.left.waiting ≤ many)

gone-counts : (s : LinkSetup) (k : ℕ) (frames : List (List ℕ)) (c : Current) (W : List (List ℕ)) (next : Settled) →
    length frames ≡ current_left s (Some c) → Counts s (sum_by (frame_count s) W) (length W) next →
    Counts s (length frames + sum_by (frame_count s) W) (length W) (once_gone k frames c W next)
gone-counts s (suc k) (f ∷ g ∷ frames) c W next same h =
    let further = gone-counts s k (g ∷ frames) (one_on c) W next (omega arith) h in (omega arith, further.1)
gone-counts s k frames c W next same h = (omega arith, omega arith)

started-counts : (s : LinkSetup) (W : List (List ℕ)) → Counts s (sum_by (frame_count s) W) (length W) (started s W)
started-counts s [] = (refl, omega arith)
started-counts s (P ∷ W) =
    let sum = sum_by-cons (frame_count s) P W in
    let all = gone-counts s 1 (cut s.framing P) (begun_sending s P) W (started s W) (omega arith) (started-counts s W) in
    (omega arith, omega arith)

pub settled-counts : (s : LinkSetup) (r : SenderState) → Counts s (left s r) (length r.waiting) (settled s r)
settled-counts s r = go r.current
  where
    go : (cur : Option Current) → Counts s (current_left s cur + sum_by (frame_count s) r.waiting) (length r.waiting) (settled_in s cur r.waiting)
    go None = let all = started-counts s r.waiting in (omega arith, all.1)
    go (Some c) =
        let size = length-drop c.next (cut s.framing c.message) in
        let all = gone-counts s c.due (drop c.next (cut s.framing c.message)) c r.waiting (started s r.waiting) size (started-counts s r.waiting) in
        (omega arith, all.1)

-- at most so many frames, and at most so many replies
pub record IsWithin (s : LinkSetup) (r : SenderState) (most many : ℕ) : Type 0 where
  pub frames : left s r ≤ most
  pub replies : length r.waiting ≤ many

-- ticks, and an event, leave no more frames and no more replies than there were
pub sender_ticks_within : (s : LinkSetup) (n : ℕ) (cur : Option Current) (W : List (List ℕ))
    → IsWithin s (sender_ticks s n cur W) (current_left s cur + sum_by (frame_count s) W) (length W)
sender_ticks_within s n cur W = grind arith

pub event_within : (s : LinkSetup) (x : Event) (cur : Option Current) (W : List (List ℕ))
    → IsWithin s (sender_event s x cur W) (current_left s cur + sum_by (frame_count s) W) (length W)
event_within s x cur W = grind arith

-- one more reply: at most one more frame is due, and one more waits
pub replied-numbers : (s : LinkSetup) (P : List ℕ) (r : Settled)
    → (length (replied s P r).due ≤ length r.due + 1) × (length (replied s P r).left.waiting ≤ length r.left.waiting + 1)
replied-numbers s P r = grind (arith, length-append {A = List ℕ})

-- and no more frames are left than those that it has
pub replied-frames : (s : LinkSetup) (P : List ℕ) (r : Settled)
    → length (replied s P r).due + left s (replied s P r).left ≤ length r.due + left s r.left + frame_count s P
replied-frames s P r = go r.due r.left.current r.left.waiting
  where
    go : (due : List (List ℕ)) (cur : Option Current) (W : List (List ℕ))
        → length (replied_in s P due cur W).due + left s (replied_in s P due cur W).left
        ≤ length due + (current_left s cur + sum_by (frame_count s) W) + frame_count s P
    go due None W =
        let all = started-counts s (P ∷ []) in
        let one = sum_by-cons (frame_count s) P [] in
        omega (arith, length-append due (started s (P ∷ [])).due, all.0, one)
    go due (Some c) W = omega (arith, sum_by-append (frame_count s) W (P ∷ []), sum_by-cons (frame_count s) P [])
