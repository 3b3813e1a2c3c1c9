-- Where no reply goes later, the messages are placed as ever: each reply at the moment that gave its step, and nothing is held.
use Rattle.std.proofs.Common.{◌≡◌, ℕ, ◌+◌, Option, Some, None, List, [], ◌∷◌, ◌++◌, map, refl, ap, ap₂, subst, sym, ◌∙◌, append_assoc, arith}
use Rattle.std.proofs.lemmas.List.{append-nil}
use Rattle.std.specs.Prelude.{IsTrue}
use Rattle.std.specs.List.{flat_map, zip}
use Rattle.std.specs.Option.{option_to_list}
use Rattle.diag_can.specs.Event.{Event, Physical, Functional, Ticks}
use Rattle.diag_pdu.specs.declared.step.Step.{Step}
use Rattle.diag_pdu.specs.declared.setup.LinkSetup.{LinkSetup}
use Rattle.diag_tp.specs.Gives.{gives}
use Rattle.diag_tp.specs.Moments.{history, last_moment, last_time, now}
use Rattle.diag_tp.specs.Link.{is_frame}
use Rattle.diag_tp.proofs.Moments.{last_time-frame}
use Rattle.diag_tp.specs.Placing as plain
use Rattle.diag_tp.specs.Wire.{Placed, wire}
use Rattle.diag_port.specs.declared.pace.Pace.{Pace}
use Rattle.diag_port.specs.declared.held.Later.{Later}
use Rattle.diag_port.specs.Late.{Late, AreAskedBy, asked_at, NoneIsDue, held_late, laters, placed_late, released, still}
use Rattle.diag_desk.specs.Entries.{replies}
use Rattle.diag_desk.specs.Timed.{Timed, entries_of}
use Rattle.diag_port.specs.Laws.{AreAtOnce, AtOnceLaw}
use Rattle.diag_port.specs.Releasing.{Mark, late_at, mark_of, marks_after, sid_of}
use Rattle.diag_port.proofs.LateLemmas.{Goes, asked_more, goes_append, goes_silent}
use Rattle.diag_port.proofs.PortLemmas.{asked_on, asked_received, goes_received, history_ticks, released_at_once, still_at_once}

abbrev later_than : List Event → Event → List Later → List Late
later_than E e N = asked_at (last_moment (E ++ e ∷ [])) N

asked_event : (E : List Event) (e : Event) (L : List Late) (N : List Later) → AreAskedBy (last_moment E) L
    → AreAskedBy (last_moment (E ++ e ∷ [])) (L ++ later_than E e N)
asked_event E (Ticks n) L N asked = asked_more (last_moment (E ++ Ticks n ∷ [])) L N (asked_on E n L asked)
asked_event E (Physical bytes) L N asked = asked_received E L (Physical bytes) N refl asked
asked_event E (Functional bytes) L N asked = asked_received E L (Functional bytes) N refl asked

frame_goes : (E : List Event) (L : List Late) (e : Event) (N : List Later) → IsTrue (is_frame e) → AreAskedBy (last_moment E) L
    → held_late (history E) 0 L ≡ []
    → Goes (history (E ++ e ∷ [])) 0 (L ++ later_than E e N)
    (placed_late (history E) 0 L ++ released (last_moment (E ++ e ∷ [])) (last_time (E ++ e ∷ [])) N) (still (last_time (E ++ e ∷ [])) N)
frame_goes E L e N frame asked none =
    let time = last_time-frame E e frame in
    rw time (goes_received E L e (last_time E) [] N frame asked (sym none) tt refl)

-- an event, where nothing is held
event_goes : (E : List Event) (L : List Late) (e : Event) (N : List Later) → AreAskedBy (last_moment E) L → held_late (history E) 0 L ≡ []
    → Goes (history (E ++ e ∷ [])) 0 (L ++ later_than E e N)
    (placed_late (history E) 0 L ++ released (last_moment (E ++ e ∷ [])) (last_time (E ++ e ∷ [])) N) (still (last_time (E ++ e ∷ [])) N)
event_goes E L (Ticks n) N asked none =
    let past = history E in
    let hist = history_ticks E n in
    let quiet = goes_silent n past L asked (subst (λ H. NoneIsDue (now past + n) H) (sym none) tt) in
    let wider = asked_on E n L asked in
    let more = goes_append (history (E ++ Ticks n ∷ [])) 0 L N (omega arith) wider in
    let A = ap (λ p. placed_late p 0 L) hist ∙ quiet.placed in
    let H = ap (λ p. held_late p 0 L) hist ∙ (quiet.held ∙ none) in
    record {
      placed = more.placed ∙ ap₂ (λ a h. a ++ released (last_moment (E ++ Ticks n ∷ [])) (last_time (E ++ Ticks n ∷ [])) (h ++ N)) A H;
      held = more.held ∙ ap (λ h. still (last_time (E ++ Ticks n ∷ [])) (h ++ N)) H;
    }
event_goes E L (Physical bytes) N asked none = frame_goes E L (Physical bytes) N refl asked none
event_goes E L (Functional bytes) N asked none = frame_goes E L (Functional bytes) N refl asked none

zip-nil : {A B : Type 0} (xs : List A) → zip {K = A} {X = B} xs [] ≡ []
zip-nil [] = refl
zip-nil (x ∷ xs) = refl

abbrev lates_of : LinkSetup → Pace → List Event → List Event → List Timed → List Late
lates_of s pace p es R = flat_map (λ (x : Mark × Timed). late_at pace x.0 x.1) (zip (marks_after s p es) R)

abbrev plain_of : LinkSetup → List Event → List Event → List Timed → List Placed
plain_of s p es R =
    flat_map (λ (x : ℕ × Option (List ℕ)). plain.placed_at x.0 x.1) (zip (plain.moments_of_steps_after s p es) (replies (entries_of R)))

-- after an event whose messages are these, and further ones
then_goes : (p : List Event) (e : Event) (es : List Event) (L N rest : List Late) (A B others : List Placed)
    → Goes (history ((p ++ e ∷ []) ++ es)) 0 ((L ++ N) ++ rest) ((A ++ B) ++ others) []
    → Goes (history (p ++ e ∷ es)) 0 (L ++ (N ++ rest)) (A ++ (B ++ others)) []
then_goes p e es L N rest A B others h = rw (← append_assoc p (e ∷ []) es, ← append_assoc L N rest, ← append_assoc A B others) h

none_goes : (p : List Event) (e : Event) (es : List Event) (L X : List Late) (A Y : List Placed) → X ≡ [] → Y ≡ []
    → Goes (history ((p ++ e ∷ []) ++ es)) 0 ((L ++ []) ++ X) ((A ++ []) ++ Y) [] → Goes (history (p ++ e ∷ es)) 0 (L ++ []) (A ++ []) []
none_goes p e es L X A Y x y h =
    let whole = (p ++ e ∷ []) ++ es in
    let left : (L ++ []) ++ X ≡ L ++ [] = ap (λ v. (L ++ []) ++ v) x ∙ append-nil (L ++ []) in
    let right : (A ++ []) ++ Y ≡ A ++ [] = ap (λ v. (A ++ []) ++ v) y ∙ append-nil (A ++ []) in
    rw (← append_assoc p (e ∷ []) es) (subst (λ w. Goes (history whole) 0 (L ++ []) w []) right (subst (λ w. Goes (history whole) 0 w ((A ++ []) ++ Y) []) left h))

-- further events, after a past by whose end all was placed
goes_from : (s : LinkSetup) (pace : Pace) (p es : List Event) (L : List Late) (A : List Placed) (R : List Timed) → AreAskedBy (last_moment p) L
    → Goes (history p) 0 L A [] → AreAtOnce R
    → Goes (history (p ++ es)) 0 (L ++ lates_of s pace p es R) (A ++ plain_of s p es R) []
goes_from s pace p [] L A R asked h once = rw (append-nil p, append-nil L, append-nil A) h
goes_from s pace p (e ∷ es) L A R asked h once =
    let none = event_goes p L e [] asked h.held in
    let quiet : Goes (history (p ++ e ∷ [])) 0 (L ++ []) (A ++ []) [] = record { placed = none.placed ∙ ap (λ B. B ++ []) h.placed; held = none.held } in
    let wider = asked_event p e L [] asked in
    elim (gives s p e) as (λ o. Goes (history (p ++ e ∷ es)) 0
    (L ++ flat_map (λ (x : Mark × Timed). late_at pace x.0 x.1)
    (zip (map (λ (step : Step). mark_of (p ++ e ∷ [])) (option_to_list o) ++ marks_after s (p ++ e ∷ []) es) R))
    (A ++ flat_map (λ (x : ℕ × Option (List ℕ)). plain.placed_at x.0 x.1)
    (zip (map (λ (step : Step). last_moment (p ++ e ∷ [])) (option_to_list o) ++ plain.moments_of_steps_after s (p ++ e ∷ []) es)
    (replies (entries_of R)))) []) [
      | None ↦ then_goes p e es L [] (lates_of s pace (p ++ e ∷ []) es R) A [] (plain_of s (p ++ e ∷ []) es R)
          (goes_from s pace (p ++ e ∷ []) es (L ++ []) (A ++ []) R wider quiet once)
      | Some step ↦ answered R (λ L A R wider h once. goes_from s pace (p ++ e ∷ []) es L A R wider h once) once quiet wider
    ]
  where
    answered : (R : List Timed)
        → ((L : List Late) (A : List Placed) (R : List Timed) → AreAskedBy (last_moment (p ++ e ∷ [])) L → Goes (history (p ++ e ∷ [])) 0 L A [] → AreAtOnce R
        → Goes (history ((p ++ e ∷ []) ++ es)) 0 (L ++ lates_of s pace (p ++ e ∷ []) es R) (A ++ plain_of s (p ++ e ∷ []) es R) []) → AreAtOnce R → Goes (history (p ++ e ∷ [])) 0 (L ++ []) (A ++ []) [] → AreAskedBy (last_moment (p ++ e ∷ [])) (L ++ [])
        → Goes (history (p ++ e ∷ es)) 0
        (L ++ flat_map (λ (x : Mark × Timed). late_at pace x.0 x.1) (zip (mark_of (p ++ e ∷ []) ∷ marks_after s (p ++ e ∷ []) es) R))
        (A ++ flat_map (λ (x : ℕ × Option (List ℕ)). plain.placed_at x.0 x.1)
        (zip (last_moment (p ++ e ∷ []) ∷ plain.moments_of_steps_after s (p ++ e ∷ []) es) (replies (entries_of R)))) []
    answered [] again once quiet wider =
        let past = p ++ e ∷ [] in
        let more = again (L ++ []) (A ++ []) [] wider quiet tt in
        none_goes p e es L (lates_of s pace past es []) A (plain_of s past es [])
        (ap (flat_map (λ (x : Mark × Timed). late_at pace x.0 x.1)) (zip-nil {B = Timed} (marks_after s past es)))
        (ap (flat_map (λ (x : ℕ × Option (List ℕ)). plain.placed_at x.0 x.1)) (zip-nil {B = Option (List ℕ)} (plain.moments_of_steps_after s past es))) more
    answered (r ∷ R) again once quiet wider =
        let past = p ++ e ∷ [] in
        let d = last_moment past in
        let t = last_time past in
        let N = laters pace t r.after (sid_of r.entry.step) r.entry.reply in
        let on = event_goes p L e N asked h.held in
        let B = plain.placed_at d r.entry.reply in
        let here : Goes (history past) 0 (L ++ later_than p e N) (A ++ B) [] = record {
          placed = on.placed ∙ ap₂ (λ a b. a ++ b) h.placed (released_at_once pace d t r.after (sid_of r.entry.step) r.entry.reply once.0);
          held = on.held ∙ still_at_once pace t r.after (sid_of r.entry.step) r.entry.reply once.0;
        } in
        then_goes p e es L (later_than p e N) (lates_of s pace past es R) A B (plain_of s past es R)
        (again (L ++ later_than p e N) (A ++ B) R (asked_event p e L N asked) here once.1)

-- so where no reply goes later all is as without delays
pub at_once : AtOnceLaw
at_once s pace E R once =
    let whole = goes_from s pace [] E [] [] R tt (record { placed = refl; held = refl }) once in
    (whole.placed, ap (wire s E) whole.placed, whole.held)
