-- What a port stands for, as ticks pass.
use Rattle.std.proofs.Common.{◌≡◌, ◌≤◌, ◌<◌, ℕ, zero, suc, ◌+◌, List, [], ◌∷◌, ◌++◌, length, refl, ap, ap₂, sym, ◌∙◌, arith, replicate, subst}
use Rattle.std.specs.Prelude.{IsTrue, Option, Some, None}
use Rattle.diag_tp.specs.Placing.{placed_at}
use Rattle.diag_port.specs.declared.pace.Pace.{Pace}
use Rattle.diag_port.proofs.Pendings.{pendings_end}
use Rattle.diag_can.specs.Event.{Event, Ticks}
use Rattle.diag_pdu.specs.declared.setup.LinkSetup.{LinkSetup}
use Rattle.diag_tp.specs.declared.sent.Sent.{Sent}
use Rattle.diag_tp.specs.Moments.{after, moments, history, now, last_moment, last_time}
use Rattle.diag_tp.proofs.Moments.{after-append, after-moments, frame-unit, history-more, last_time-frame, moments-append}
use Rattle.diag_port.specs.declared.held.Later.{Later}
use Rattle.diag_port.specs.Held.{until_due}
use Rattle.diag_port.specs.Late.{Late, AreAskedBy, NoneIsDue, asked_at, held_late, laters, most_pendings, placed_late, released, still}
use Rattle.diag_tp.specs.Wire.{Placed, wire, wire_of}
use Rattle.diag_tp.specs.Link.{StandsFor, is_frame}
use Rattle.diag_tp.specs.State.{LinkState}
use Rattle.std.proofs.lemmas.List.{append-nil}
use Rattle.diag_port.specs.Port.{PortFor, PortState, HandedOut}
use Rattle.diag_port.proofs.LateLemmas.{Goes, asked_more, asked_wider, goes_append, goes_on, goes_silent, goes_ticks, released_due, released_none, still_due, still_none}

pub history_ticks : (E : List Event) (n : ℕ) → history (E ++ Ticks n ∷ []) ≡ replicate n (Ticks 1) ++ history E
history_ticks E n = after-append [] E (Ticks n ∷ [])

not_due_yet : (t k : ℕ) (H : List Later) → suc k ≤ until_due t H → NoneIsDue (t + k) H
not_due_yet t k [] h = tt
not_due_yet t k (x ∷ H) h = omega (arith, h)

-- ticks before the last of which nothing is due place what is due then
pub goes_moved : (E : List Event) (L : List Late) (part t : ℕ) (H : List Later) → 1 ≤ part → AreAskedBy (last_moment E) L → H ≡ held_late (history E) 0 L
    → part ≤ until_due (last_time E) H → t ≡ last_time E + part
    → Goes (history (E ++ Ticks part ∷ [])) 0 L (placed_late (history E) 0 L ++ released (last_moment (E ++ Ticks part ∷ [])) t H) (still t H)
goes_moved E L zero t H some asked is few time = absurd (omega (arith, some))
goes_moved E L (suc k) t H some asked is few time =
    let past = history E in
    let more = goes_ticks k past L asked (subst (λ x. NoneIsDue (now past + k) x) is (not_due_yet (now past) k H few)) in
    let hist = history_ticks E (suc k) in
    let clock : now (replicate (suc k) (Ticks 1) ++ past) ≡ t = ap now (sym hist) ∙ (time_of E k ∙ sym time) in
    rw (hist, is, ← clock) more
  where
    now-ticks : (k : ℕ) (past : List Event) → now (replicate k (Ticks 1) ++ past) ≡ now past + k
    now-ticks zero past = omega arith
    now-ticks (suc k) past = omega (arith, now-ticks k past)

    time_of : (E : List Event) (k : ℕ) → last_time (E ++ Ticks (suc k) ∷ []) ≡ last_time E + suc k
    time_of E k = ap now (history_ticks E (suc k)) ∙ now-ticks (suc k) (history E)

length-ticks : (k : ℕ) (past : List Event) → length (replicate k (Ticks 1) ++ past) ≡ k + length past
length-ticks zero past = omega arith
length-ticks (suc k) past = omega (arith, length-ticks k past)

pub asked_on : (E : List Event) (n : ℕ) (L : List Late) → AreAskedBy (last_moment E) L → AreAskedBy (last_moment (E ++ Ticks n ∷ [])) L
asked_on E n L h = asked_wider (last_moment E) (last_moment (E ++ Ticks n ∷ [])) L (omega (arith, ap length (history_ticks E n), length-ticks n (history E))) h

-- a port stands for moments, however their ticks are counted
abbrev pub MomentsLaw : Type 0
MomentsLaw = (s : LinkSetup) (link : LinkState) (E E' : List Event) (A : List Placed) (Q : List Sent) → moments E ≡ moments E'
    → StandsFor s link E A Q → StandsFor s link E' A Q

pub port_moments : MomentsLaw → (s : LinkSetup) (port : PortState) (E E' : List Event) (L : List Late) (Q : List Sent) → moments E ≡ moments E'
    → PortFor s port E L Q → PortFor s port E' L Q
port_moments law s port E E' L Q same h =
    let past : history E ≡ history E' = after-moments [] E ∙ (ap (after []) same ∙ sym (after-moments [] E')) in
    record {
      stands = subst (λ p. StandsFor s port.link E' (placed_late p 0 L) Q) past (law s port.link E E' (placed_late (history E) 0 L) Q same h.stands);
      held = h.held ∙ ap (λ p. held_late p 0 L) past;
      asked = subst (λ p. AreAskedBy (length p) L) past h.asked;
    }

pub no_ticks : (E : List Event) (n : ℕ) → n ≡ 0 → moments E ≡ moments (E ++ Ticks n ∷ [])
no_ticks E n h =
    sym (append-nil (moments E)) ∙ (ap (λ k. moments E ++ (replicate k (Ticks 1) ++ [])) (sym h) ∙ sym (moments-append E (Ticks n ∷ [])))

pub port_handed : MomentsLaw → (s : LinkSetup) (port : PortState) (E E' : List Event) (L : List Late) (Q : List Sent) → moments E ≡ moments E'
    → HandedOut s port E L Q → HandedOut s port E' L Q
unfolding wire
port_handed law s port E E' L Q same h =
    let past : history E ≡ history E' = after-moments [] E ∙ (ap (after []) same ∙ sym (after-moments [] E')) in
    record {
      stands = port_moments law s port E E' L Q same h.stands;
      all = h.all ∙ ap (λ p. wire_of s p (placed_late p 0 L)) past;
    }

-- ---- a frame

-- a frame, with the messages of the reply to its request
pub goes_received : (E : List Event) (L : List Late) (e : Event) (t : ℕ) (H N : List Later) → IsTrue (is_frame e) → AreAskedBy (last_moment E) L
    → H ≡ held_late (history E) 0 L → NoneIsDue (last_time E) H → t ≡ last_time E
    → Goes (history (E ++ e ∷ [])) 0 (L ++ asked_at (last_moment (E ++ e ∷ [])) N)
    (placed_late (history E) 0 L ++ released (last_moment (E ++ e ∷ [])) t (H ++ N)) (still t (H ++ N))
goes_received E L e t H N frame asked is none time =
    let past = history E in
    let hist : history (E ++ e ∷ []) ≡ e ∷ past = history-more E e (frame-unit e frame) in
    let clock : now (e ∷ past) ≡ t = ap now (sym hist) ∙ (last_time-frame E e frame ∙ sym time) in
    let on = goes_on e past 0 L (omega arith) asked in
    let quiet : NoneIsDue (now (e ∷ past)) (held_late past 0 L) = subst (λ n. NoneIsDue n (held_late past 0 L)) (sym (clock ∙ time)) (subst (λ h. NoneIsDue (now past) h) is none) in
    let placed : placed_late (e ∷ past) 0 L ≡ placed_late past 0 L =
    on.placed ∙ (ap (λ B. placed_late past 0 L ++ B) (released_none (suc (length past)) (now (e ∷ past)) (held_late past 0 L) quiet) ∙ append-nil (placed_late past 0 L)) in
    let held : held_late (e ∷ past) 0 L ≡ H = on.held ∙ (still_none (now (e ∷ past)) (held_late past 0 L) quiet ∙ sym is) in
    let more = goes_append (e ∷ past) 0 L N (omega arith) (asked_wider (length past) (suc (length past)) L (omega arith) asked) in
    rw hist (record {
      placed = more.placed ∙ ap₂ (λ A r. A ++ r) placed (ap₂ (λ n h. released (suc (length past)) n (h ++ N)) clock held);
      held = more.held ∙ ap₂ (λ n h. still n (h ++ N)) clock held;
    })

pub asked_received : (E : List Event) (L : List Late) (e : Event) (N : List Later) → IsTrue (is_frame e) → AreAskedBy (last_moment E) L
    → AreAskedBy (last_moment (E ++ e ∷ [])) (L ++ asked_at (last_moment (E ++ e ∷ [])) N)
asked_received E L e N frame asked =
    let hist : history (E ++ e ∷ []) ≡ e ∷ history E = history-more E e (frame-unit e frame) in
    asked_more (last_moment (E ++ e ∷ [])) L N
    (asked_wider (last_moment E) (last_moment (E ++ e ∷ [])) L (omega (arith, ap length hist)) asked)

-- ---- a reply that goes at once

pub released_at_once : (pace : Pace) (d t after sid : ℕ) (reply : Option (List ℕ)) → after ≡ 0
    → released d t (laters pace t after sid reply) ≡ placed_at d reply
released_at_once pace d t after sid None none = refl
released_at_once pace d t after sid (Some reply) none =
    let x : Later = record { due = t + after; message = reply } in
    ap (λ P. released d t (P ++ x ∷ [])) (pendings_end pace t after sid most_pendings 0 (omega (arith, none)))
    ∙ released_due d t x [] (omega (arith, none))

pub still_at_once : (pace : Pace) (t after sid : ℕ) (reply : Option (List ℕ)) → after ≡ 0 → still t (laters pace t after sid reply) ≡ []
still_at_once pace t after sid None none = refl
still_at_once pace t after sid (Some reply) none =
    let x : Later = record { due = t + after; message = reply } in
    ap (λ P. still t (P ++ x ∷ [])) (pendings_end pace t after sid most_pendings 0 (omega (arith, none)))
    ∙ still_due t x [] (omega (arith, none))

-- ---- ticks in which nothing is due

pub not_due_within : (t n : ℕ) (H : List Later) → n < until_due t H → NoneIsDue (t + n) H
not_due_within t n [] h = tt
not_due_within t n (x ∷ H) h = omega (arith, h)

pub goes_quietly : (E : List Event) (L : List Late) (n : ℕ) (H : List Later) → AreAskedBy (last_moment E) L → H ≡ held_late (history E) 0 L
    → n < until_due (last_time E) H → Goes (history (E ++ Ticks n ∷ [])) 0 L (placed_late (history E) 0 L) H
goes_quietly E L n H asked is few =
    let past = history E in
    let goes = goes_silent n past L asked (subst (λ x. NoneIsDue (now past + n) x) is (not_due_within (now past) n H few)) in
    rw (history_ticks E n) (record { placed = goes.placed; held = goes.held ∙ sym is })

pub later_due : (t t' : ℕ) (H : List Later) → t' ≤ t → NoneIsDue t H → NoneIsDue t' H
later_due t t' [] le h = tt
later_due t t' (x ∷ H) le h = omega (arith, le, h)
