-- Ticks before which nothing falls due and nothing ends.
use Rattle.std.proofs.Common.{◌≡◌, ℕ, zero, suc, ◌+◌, ◌<◌, ◌≤◌, List, [], ◌∷◌, ◌++◌, length, drop, map, refl, sym, subst, ◌∙◌, ap, arith, min}
use Rattle.std.specs.Prelude.{Option, Some, None, max, option_and_then, option_to_list}
use Rattle.std.proofs.lemmas.Bool.Decides.{nat_tests}
use Rattle.std.proofs.lemmas.List.{append-nil, nil_from_length}
use Rattle.diag_can.specs.Event.{Event, Ticks}
use Rattle.diag_pdu.specs.declared.setup.LinkSetup.{LinkSetup}
use Rattle.diag_tp.specs.declared.sent.Sent.{Sent}
use Rattle.diag_sides.specs.declared.sending.Phase.{Phase}
use Rattle.diag_tp.specs.Moments.{moments, last_time}
use Rattle.diag_tp.specs.Wire.{Placed, stamped, wire}
use Rattle.diag_sides.specs.Receiver.{Receiving, one_tick_later, ticks_later}
use Rattle.diag_sides.specs.declared.sending.Sending.{Sending as Current}
use Rattle.diag_sides.specs.Sender.{SenderState, kept_as, in_phase, once_gone, one_on, started, settled_in, tick_fields, ticked_fields}
use Rattle.diag_tp.specs.Kept.{sender_ticks}
use Rattle.diag_pdu.specs.Cut.{cut}
use Rattle.diag_tp.specs.State.{LinkState, due}
use Rattle.diag_sides.specs.Quiet.{always, reception_quiet, phase_quiet, sender_quiet, reception_later, phase_later, current_later}
use Rattle.diag_tp.specs.Link.{StandsFor, last_tick, pending, quiet, quiet_later}
use Rattle.diag_tp.specs.Laws.{QuietLaw}
use Rattle.diag_tp.proofs.Moments.{moments-append, moments-sum}
use Rattle.diag_tp.proofs.History.{drained_parts, stands_more, stands_moments}

-- ticks before the end of a reception, and one tick more
pub reception_still : (n_cr n : ℕ) (o : Option Receiving) → n < reception_quiet n_cr o → option_and_then (ticks_later n_cr n) o ≡ reception_later n o
reception_still n_cr n o few = grind (arith, nat_tests)

reception-more : (n_cr n : ℕ) (o : Option Receiving)
    → option_and_then (ticks_later n_cr (suc n)) o ≡ option_and_then (one_tick_later n_cr) (reception_later n o)
reception-more n_cr n o = grind arith

-- ticks in which nothing happens to a message, and one tick more
phase-still : (s : LinkSetup) (n : ℕ) (c : Current) (p : Phase) → n < phase_quiet p
    → (tick_fields s n c p ≡ Some (in_phase c (phase_later n p)))
    × (tick_fields s (suc n) c p ≡ tick_fields s 1 (in_phase c (phase_later n p)) (phase_later n p))
phase-still s n c p few = grind (arith, nat_tests)

pub current_still : (s : LinkSetup) (n : ℕ) (o : Option Current) → n < sender_quiet o
    → (ticked_fields s n o ≡ current_later n o) × (ticked_fields s (suc n) o ≡ ticked_fields s 1 (current_later n o))
current_still s n None few = (refl, refl)
current_still s n (Some c) few = phase-still s n c c.phase few

-- what is due doesn't depend on the phase
due-current : (s : LinkSetup) (n : ℕ) (o : Option Current) (W : List (List ℕ)) → (settled_in s (current_later n o) W).due ≡ (settled_in s o W).due
due-current s n None W = refl
due-current s n (Some c) W = go c.due (drop c.next (cut s.framing c.message)) c
  where
    p : Phase
    p = phase_later n c.phase

    go : (k : ℕ) (frames : List (List ℕ)) (c : Current) → (once_gone k frames (in_phase c p) W (started s W)).due ≡ (once_gone k frames c W (started s W)).due
    go zero frames c = refl
    go (suc k) [] c = refl
    go (suc k) (f ∷ []) c = refl
    go (suc k) (f ∷ g ∷ frames) c = ap (λ d. f ∷ d) (go k (g ∷ frames) (one_on c))

pub due_later : (n : ℕ) (link : LinkState) → due (quiet_later n link) ≡ due link
unfolding quiet_later
due_later n link = ap (λ d. option_to_list link.grant ++ d) (due-current link.setup n link.sender.current link.sender.waiting)

pub quiet_drained : (link : LinkState) → pending link ≡ 0
    → quiet link ≡ max (min (reception_quiet link.setup.n_cr link.partial) (sender_quiet link.sender.current)) 1
unfolding pending quiet
quiet_drained link none = rw none refl

-- no ticks
pub reception_none : (o : Option Receiving) → reception_later 0 o ≡ o
reception_none o = grind arith

pub current_none : (o : Option Current) → current_later 0 o ≡ o
current_none o = grind arith

pub quiet_once : (n : ℕ) (link : LinkState) → pending link ≡ 0
    → quiet (quiet_later n link) ≡ max (min (reception_quiet link.setup.n_cr (reception_later n link.partial)) (sender_quiet (current_later n link.sender.current))) 1
unfolding pending quiet_later
quiet_once n link none = quiet_drained (quiet_later n link) (ap length (due_later n link) ∙ none)

pub quiet_now : (link : LinkState) → pending link ≡ 0 → quiet (quiet_later 0 link) ≡ quiet link
quiet_now link none = rw (quiet_once 0 link none, quiet_drained link none, reception_none link.partial, current_none link.sender.current) refl

-- a link by its fields
link_with : LinkSetup → ℕ → Option Receiving → Option (List ℕ) → SenderState → LinkState
link_with setup now partial grant sender = record { setup = setup; now = now; partial = partial; grant = grant; sender = sender }

pub same_link : (a b : LinkState) → a.setup ≡ b.setup → a.now ≡ b.now → a.partial ≡ b.partial → a.grant ≡ b.grant → a.sender ≡ b.sender → a ≡ b
unfolding link_with
same_link a b set clock partial grant sender =
    let all : link_with a.setup a.now a.partial a.grant a.sender ≡ link_with b.setup b.now b.partial b.grant b.sender =
    rw (set, clock, partial, grant, sender) refl in all

-- ticks in which nothing happens, by the fields
pub is_later : (n : ℕ) (link link' : LinkState) → 1 ≤ n → n < quiet link → pending link ≡ 0 → link'.grant ≡ link.grant
    → link'.sender ≡ sender_ticks link.setup n link.sender.current link.sender.waiting
    → link'.partial ≡ option_and_then (ticks_later link.setup.n_cr n) link.partial
    → link'.setup ≡ link.setup → link'.now ≡ min (link.now + n) last_tick → link' ≡ quiet_later n link
unfolding quiet_later
is_later n link link' some few none grant sender partial same now =
    let q = quiet_drained link none in
    same_link link' _ same now (partial ∙ reception_still link.setup.n_cr n link.partial (omega arith)) grant
    (sender ∙ ap (λ o. kept_as o link.sender.waiting) (current_still link.setup n link.sender.current (omega arith)).0)

-- ticks, before the last of which nothing falls due
pub stands_ticks :
    (s : LinkSetup) (link link' : LinkState) (E : List Event) (A : List Placed) (Q : List Sent) (n : ℕ) → 1 ≤ n
    → n ≤ quiet link → pending link ≡ 0 → link'.grant ≡ link.grant →
    link'.sender ≡ sender_ticks link.setup n link.sender.current link.sender.waiting
    → link'.partial ≡ option_and_then (ticks_later link.setup.n_cr n) link.partial →
    link'.setup ≡ link.setup → link'.now ≡ min (link.now + n) last_tick → StandsFor s link E A Q → StandsFor s link' (E ++ Ticks n ∷ []) A Q
unfolding pending quiet_later
stands_ticks s link link' E A Q zero some h none grant sender partial same now stands = absurd (omega arith)
stands_ticks s link link' E A Q (suc zero) some h none grant sender partial same now stands =
    stands_more s link link' E A Q (Ticks 1) refl tt (nil_from_length (due link) none) (grant ∙ (drained_parts link.grant _ none).0)
    sender partial same now stands
stands_ticks s link link' E A Q (suc (suc k)) some h none grant sender partial same now stands =
    let before = quiet_later (suc k) link in
    let one : suc k + 1 ≡ suc (suc k) = omega arith in
    let q = quiet_drained link none in
    let sends = current_still link.setup (suc k) link.sender.current (omega arith) in
    stands_moments s link' ((E ++ Ticks (suc k) ∷ []) ++ Ticks 1 ∷ []) (E ++ Ticks (suc (suc k)) ∷ []) A Q
    (moments-sum E (suc k) 1 ∙ ap (λ (n : ℕ). moments (E ++ Ticks n ∷ [])) one)
    (stands_more s before link' (E ++ Ticks (suc k) ∷ []) A Q (Ticks 1) refl tt
    (due_later (suc k) link ∙ nil_from_length (due link) none) (grant ∙ (drained_parts link.grant _ none).0)
    (sender ∙ ap (λ o. kept_as o link.sender.waiting) sends.1) (partial ∙ reception-more link.setup.n_cr (suc k) link.partial) same (now ∙ omega arith)
    (stands_ticks s link before E A Q (suc k) (omega arith) (omega arith) none refl
    (ap (λ o. kept_as o link.sender.waiting) (sym sends.0)) (sym (reception_still link.setup.n_cr (suc k) link.partial (omega arith))) refl refl stands))

-- ---- what is left of a quiet time

-- of a time q' is left once n ticks have passed, where it has an end
abbrev IsLeft : ℕ → ℕ → ℕ → Type 0
IsLeft n q q' = (q ≤ q' + n) × ((m : ℕ) → n + m < always → m < q' → n + m < q)

reception-left : (n_cr n : ℕ) (o : Option Receiving) → IsLeft n (reception_quiet n_cr o) (reception_quiet n_cr (reception_later n o))
reception-left n_cr n o = grind arith

current-left : (n : ℕ) (o : Option Current) → IsLeft n (sender_quiet o) (sender_quiet (current_later n o))
current-left n o = grind arith

pub quiet_left : (n : ℕ) (link : LinkState) → pending link ≡ 0
    → (quiet link ≤ quiet (quiet_later n link) + n)
    × ((m : ℕ) → 1 ≤ m → n + m < always → m < quiet (quiet_later n link) → n + m < quiet link)
quiet_left n link none =
    let before = quiet_drained link none in
    let after = quiet_once n link none in
    let a = reception-left link.setup.n_cr n link.partial in
    let b = current-left n link.sender.current in (
      omega (arith, before, after, a.0, b.0),
      λ m some least few.
          let r : m < reception_quiet link.setup.n_cr (reception_later n link.partial) = omega (arith, after, few, some) in
          let c : m < sender_quiet (current_later n link.sender.current) = omega (arith, after, few, some) in
          omega (arith, before, a.1 m least r, b.1 m least c),
    )

-- ---- a quiet time as a whole

-- nothing is due then
pub still_drained : (n : ℕ) (link : LinkState) → pending link ≡ 0 → pending (quiet_later n link) ≡ 0
unfolding pending
still_drained n link none = ap length (due_later n link) ∙ none

-- no ticks change nothing
later_none : (link : LinkState) → link.now ≤ last_tick → quiet_later 0 link ≡ link
unfolding quiet_later
later_none link known =
    same_link _ link refl (omega (arith, known)) (reception_none link.partial) refl (ap (λ o. kept_as o link.sender.waiting) (current_none link.sender.current))

moments_none : (E : List Event) → moments (E ++ Ticks 0 ∷ []) ≡ moments E
moments_none E = moments-append E (Ticks 0 ∷ []) ∙ append-nil (moments E)

-- the link stands for these ticks more
pub stands_later : (s : LinkSetup) (link : LinkState) (E : List Event) (A : List Placed) (Q : List Sent) (n : ℕ) → pending link ≡ 0 → n < quiet link
    → StandsFor s link E A Q → StandsFor s (quiet_later n link) (E ++ Ticks n ∷ []) A Q
unfolding quiet_later
stands_later s link E A Q zero none few h =
    subst (λ l. StandsFor s l (E ++ Ticks 0 ∷ []) A Q) (sym (later_none link (omega (arith, h.now))))
    (stands_moments s link E (E ++ Ticks 0 ∷ []) A Q (sym (moments_none E)) h)
stands_later s link E A Q (suc n) none few h =
    let q = quiet_drained link none in
    stands_ticks s link (quiet_later (suc n) link) E A Q (suc n) (omega arith) (omega arith) none refl
    (ap (λ o. kept_as o link.sender.waiting) (sym (current_still link.setup (suc n) link.sender.current (omega arith)).0))
    (sym (reception_still link.setup.n_cr (suc n) link.partial (omega arith))) refl refl h

-- all frames are out where nothing is due
all_sent : (s : LinkSetup) (link : LinkState) (E : List Event) (A : List Placed) (Q : List Sent) → pending link ≡ 0 → StandsFor s link E A Q → Q ≡ wire s E A
unfolding pending
all_sent s link E A Q none h =
    sym (append-nil Q) ∙ (ap (λ d. Q ++ map (stamped s (last_time E)) d) (sym (nil_from_length (due link) none)) ∙ h.out)

pub quiet_law : (s : LinkSetup) (link : LinkState) (E : List Event) (A : List Placed) (Q : List Sent) (n : ℕ) → pending link ≡ 0 → n < quiet link
    → StandsFor s link E A Q → QuietLaw s link E A Q n
quiet_law s link E A Q n none few h =
    let after = stands_later s link E A Q n none few h in
    let drained = still_drained n link none in
    record {
      stands = after;
      drained = drained;
      wire = sym (all_sent s (quiet_later n link) (E ++ Ticks n ∷ []) A Q drained after) ∙ all_sent s link E A Q none h;
      rest = (quiet_left n link none).0;
    }
