-- What is due of what a sender keeps, and what it keeps once that has gone.
use Rattle.std.proofs.Common.{◌≡◌, ℕ, suc, ◌+◌, ◌-◌, ◌<◌, ◌≤◌, List, [], ◌∷◌, ◌++◌, length, take, drop, refl, ap, arith, length-drop}
use Rattle.std.specs.Prelude.{Option, Some, None, ◌==◌, if◌then◌else◌, IfSome}
use Rattle.std.proofs.lemmas.Bool.Decides.{nat_tests}
use Rattle.diag_pdu.specs.declared.setup.LinkSetup.{LinkSetup}
use Rattle.diag_sides.specs.declared.sending.Phase.{Phase}
use Rattle.diag_sides.specs.declared.sending.Sending.{Sending}
use Rattle.diag_pdu.specs.Length.{single_most}
use Rattle.diag_pdu.specs.Cut.{cut, frames_of}
use Rattle.diag_sides.specs.Sender.{SenderState, SenderFields, Settled, at_rest, frame_count, before_these, one_on, once_gone, begun_sending, started, settled_in, settled, kept, replied, IsSound, one_gone, goes_on_from, IsNext}
use Rattle.diag_pdu.proofs.CutFrames.{cut-short, frames-count, length-cut-long}
use Rattle.diag_pdu.proofs.Lengths.{count-some}
use Rattle.diag_pdu.proofs.Lists.{drop-next}

pub some-frame : (s : LinkSetup) (P : List ℕ) → 1 ≤ frame_count s P
some-frame s P = grind (arith, frames-count)

-- where nothing is due nothing changes
gone-none : (k : ℕ) (frames : List (List ℕ)) (c : Sending) (W : List (List ℕ)) (next : Settled) → (once_gone k frames c W next).due ≡ []
    → once_gone k frames c W next ≡ at_rest (Some c) W
gone-none k frames c W next h = grind arith

-- something goes where something is due and left
gone-some : (k : ℕ) (frames : List (List ℕ)) (c : Sending) (W : List (List ℕ)) (next : Settled) → 0 < k → 0 < length frames
    → (once_gone k frames c W next).due ≡ [] → ⊥
gone-some k frames c W next some more h = grind arith

started-none : (s : LinkSetup) (W : List (List ℕ)) → (started s W).due ≡ [] → W ≡ []
started-none s [] h = refl
started-none s (P ∷ W) h = absurd (gone-some 1 (cut s.framing P) (begun_sending s P) W (started s W) (omega arith) (some-frame s P) h)

pub none-due : (s : LinkSetup) (r : SenderState) → (settled s r).due ≡ [] → settled s r ≡ at_rest r.current r.waiting
none-due s r h = grind (arith, started-none, gone-none)

-- a sender that is drained
abbrev pub IsDrained : Option Sending → List (List ℕ) → Type 0
IsDrained cur W = IfSome cur (λ c. c.due ≡ 0) × (cur ≡ None → W ≡ [])

pub drained_fields : (s : LinkSetup) (cur : Option Sending) (W : List (List ℕ)) → IfSome cur (λ c. IsSound s.framing.tx_dl c) → (settled_in s cur W).due ≡ [] → IsDrained cur W
drained_fields s cur W sound h = grind (arith, started-none, gone-some, frames-count, length-drop {A = List ℕ})

pub fields_drained : (s : LinkSetup) (cur : Option Sending) (W : List (List ℕ)) → IsDrained cur W → (settled_in s cur W).due ≡ []
fields_drained s cur W d = grind arith

-- so many frames of a message go
pub gone-all : (k : ℕ) (frames : List (List ℕ)) (P : List ℕ) (i : ℕ) (phase : Phase) (W : List (List ℕ)) (next : Settled)
    → 0 < length frames → k ≤ length frames →
    once_gone k frames (record { message = P; next = i; due = k; phase = phase }) W next
    ≡ before_these (take k frames) (if k == length frames then next else at_rest (Some (kept P (i + k) phase)) W)
gone-all (suc k) (f ∷ g ∷ frames) P i phase W next some few =
    let on : i + suc k ≡ i + 1 + k = omega arith in
    let same : (suc k == suc (length (g ∷ frames))) ≡ (k == length (g ∷ frames)) = grind (arith, nat_tests) in
    let less : suc k - 1 ≡ k = omega arith in
    rw (on, same, less) (ap (λ r. before_these (f ∷ []) r) (gone-all k (g ∷ frames) P (i + 1) phase W next (omega arith) (omega arith)))
gone-all k frames P i phase W next some few = grind (arith, nat_tests)

-- a reply more
replied-one : (s : LinkSetup) (P f : List ℕ) (r : Settled) → before_these (f ∷ []) (replied s P r) ≡ replied s P (before_these (f ∷ []) r)
replied-one s P f r = grind arith

gone-more : (s : LinkSetup) (P : List ℕ) (k : ℕ) (frames : List (List ℕ)) (c : Sending) (W : List (List ℕ)) (next : Settled)
    → once_gone k frames c (W ++ P ∷ []) (replied s P next) ≡ replied s P (once_gone k frames c W next)
gone-more s P (suc k) (f ∷ []) c W next = replied-one s P f next
gone-more s P (suc k) (f ∷ g ∷ frames) c W next =
    rw (gone-more s P k (g ∷ frames) (one_on c) W next) (replied-one s P f (once_gone k (g ∷ frames) (one_on c) W next))
gone-more s P k frames c W next = refl

started-more : (s : LinkSetup) (P : List ℕ) (W : List (List ℕ)) → started s (W ++ P ∷ []) ≡ replied s P (started s W)
started-more s P [] = refl
started-more s P (R ∷ W) =
    rw (started-more s P W) (gone-more s P 1 (cut s.framing R) (begun_sending s R) W (started s W))

pub settled_reply : (s : LinkSetup) (P : List ℕ) (cur : Option Sending) (W : List (List ℕ)) → settled_in s cur (W ++ P ∷ []) ≡ replied s P (settled_in s cur W)
settled_reply s P cur W = grind (arith, started-more, gone-more)

-- the next frame is gone
gone-next : (s : LinkSetup) (c : Sending) (W : List (List ℕ)) (f : List ℕ) (rest : List (List ℕ)) → 0 < c.due → c.next < frames_of s.framing.tx_dl c.message →
    length rest ≡ frames_of s.framing.tx_dl c.message - (c.next + 1) → drop (c.next + 1) (cut s.framing c.message) ≡ rest →
    once_gone c.due (f ∷ rest) c W (started s W) ≡ before_these (f ∷ []) (settled_in s (one_gone s.framing.tx_dl c) W)
gone-next s c W f rest due some size e = grind (arith, nat_tests)

one-gone : (s : LinkSetup) (c : Sending) (W : List (List ℕ)) (after : SenderFields) (f : List ℕ) → IsSound s.framing.tx_dl c → goes_on_from s c W after f →
    settled_in s (Some c) W ≡ before_these (f ∷ []) (settled_in s after.current after.waiting)
one-gone s c W after f sound g =
    let n = frames-count s.framing c.message in
    let left = length-drop (c.next + 1) (cut s.framing c.message) in
    let size : length (drop (c.next + 1) (cut s.framing c.message)) ≡ frames_of s.framing.tx_dl c.message - (c.next + 1) = omega arith in
    rw (drop-next (cut s.framing c.message) c.next f g.1.0, g.1.1.0, g.1.1.1) (gone-next s c W f _ g.0 sound.0 size refl)

begun-sound : (s : LinkSetup) (P : List ℕ) → IsSound s.framing.tx_dl (begun_sending s P)
begun-sound s P = grind (arith, some-frame, frames-count)

pub settled_next : (s : LinkSetup) (cur : Option Sending) (W : List (List ℕ)) (after : SenderFields) (f : List ℕ) → IfSome cur (λ c. IsSound s.framing.tx_dl c)
    → IsNext s cur W after f → settled_in s cur W ≡ before_these (f ∷ []) (settled_in s after.current after.waiting)
settled_next s None [] after f sound g = absurd g
settled_next s None (P ∷ W) after f sound g = one-gone s (begun_sending s P) W after f (begun-sound s P) g
settled_next s (Some c) W after f sound g = one-gone s c W after f sound g

-- which replies wait once the frames that are due have gone
gone-waits : (k : ℕ) (frames : List (List ℕ)) (c : Sending) (W : List (List ℕ)) (next : Settled) → k < length frames
    → (once_gone k frames c W next).left.waiting ≡ W
gone-waits (suc k) (f ∷ []) c W next h = absurd (omega arith)
gone-waits (suc k) (f ∷ g ∷ frames) c W next h = gone-waits k (g ∷ frames) (one_on c) W next (omega arith)
gone-waits k frames c W next h = refl

gone-begins : (k : ℕ) (frames : List (List ℕ)) (c : Sending) (W : List (List ℕ)) (next : Settled) → 0 < length frames → length frames ≤ k
    → (once_gone k frames c W next).left.waiting ≡ next.left.waiting
gone-begins (suc k) (f ∷ []) c W next some h = refl
gone-begins (suc k) (f ∷ g ∷ frames) c W next some h = gone-begins k (g ∷ frames) (one_on c) W next (omega arith) (omega arith)
gone-begins k frames c W next some h = absurd (omega arith)

pub started-single : (s : LinkSetup) (P : List ℕ) (W : List (List ℕ)) → length P ≤ single_most s.framing.tx_dl → (started s (P ∷ W)).left.waiting ≡ (started s W).left.waiting
started-single s P W h =
    let one = ap length (cut-short s.framing P h) in gone-begins 1 (cut s.framing P) (begun_sending s P) W (started s W) (some-frame s P) (omega arith)

pub started-longer : (s : LinkSetup) (P : List ℕ) (W : List (List ℕ)) → single_most s.framing.tx_dl < length P → (started s (P ∷ W)).left.waiting ≡ W
started-longer s P W h =
    let n = length-cut-long s.framing P h in
    let some = count-some s.framing.tx_dl (length P) h in
    gone-waits 1 (cut s.framing P) (begun_sending s P) W (started s W) (omega arith)

pub settled_waits : (s : LinkSetup) (c : Sending) (W : List (List ℕ)) → c.due < frames_of s.framing.tx_dl c.message - c.next → (settled_in s (Some c) W).left.waiting ≡ W
settled_waits s c W h = grind (arith, gone-waits, frames-count, length-drop {A = List ℕ})

pub settled_begins : (s : LinkSetup) (c : Sending) (W : List (List ℕ)) → IsSound s.framing.tx_dl c → frames_of s.framing.tx_dl c.message - c.next ≤ c.due
    → (settled_in s (Some c) W).left.waiting ≡ (started s W).left.waiting
settled_begins s c W sound h = grind (arith, gone-begins, frames-count, length-drop {A = List ℕ})
