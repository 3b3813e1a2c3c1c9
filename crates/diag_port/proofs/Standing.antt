-- How a port goes on with an event more.
use Rattle.std.proofs.Common.{◌≡◌, ◌≤◌, ℕ, ◌+◌, min, Option, Some, None, List, [], ◌∷◌, ◌++◌, length, refl, ap, subst, sym, ◌∙◌, append_assoc, arith}
use Rattle.std.proofs.lemmas.List.{append-nil, length-map, map-append}
use Rattle.std.specs.Option.{option_map, option_to_list}
use Rattle.std.specs.Prelude.{IfSome, IsTrue}
use Rattle.diag_can.specs.Event.{Event, Physical, Functional, Ticks}
use Rattle.diag_pdu.specs.declared.step.Step.{Step}
use Rattle.diag_pdu.specs.declared.setup.LinkSetup.{LinkSetup}
use Rattle.diag_tp.specs.declared.sent.Sent.{Sent}
use Rattle.diag_tp.specs.Gives.{gives, steps, steps_after}
use Rattle.diag_tp.specs.Moments.{history, is_tick, last_moment, last_time}
use Rattle.diag_tp.specs.Wire.{wire}
use Rattle.diag_tp.specs.Link.{EachHistory, is_frame, last_tick}
use Rattle.diag_tp.proofs.Given.{gives_ticks}
use Rattle.diag_tp.proofs.Moments.{last_time-frame, last_time-ticks}
use Rattle.diag_desk.specs.declared.entry.Entry.{Entry}
use Rattle.diag_desk.specs.Entries.{asked, entry}
use Rattle.diag_desk.specs.Timed.{Timed, entries_of}
use Rattle.diag_port.specs.declared.pace.Pace.{Pace}
use Rattle.diag_port.specs.Late.{Late, asked_at, laters, placed_late}
use Rattle.diag_port.specs.Releasing.{drawn, lates, sid_of}
use Rattle.diag_port.specs.Port.{HandedOut, Passed, PortFor, PortState, Received, time_after}
use Rattle.diag_port.specs.Standing.{PortStands, PortTook, Went, timed_of, timed_ticks}
use Rattle.diag_port.proofs.Releasing.{lates_push, lates_quiet}

steps_after-append : (s : LinkSetup) (p xs ys : List Event) → steps_after s p (xs ++ ys) ≡ steps_after s p xs ++ steps_after s (p ++ xs) ys
steps_after-append s p [] ys = ap (λ q. steps_after s q ys) (sym (append-nil p))
steps_after-append s p (x ∷ xs) ys =
    ap (λ w. option_to_list (gives s p x) ++ w) (steps_after-append s (p ++ x ∷ []) xs ys
    ∙ ap (λ q. steps_after s (p ++ x ∷ []) xs ++ steps_after s q ys) (append_assoc p (x ∷ []) xs))
    ∙ sym (append_assoc (option_to_list (gives s p x)) (steps_after s (p ++ x ∷ []) xs) (steps_after s (p ++ x ∷ xs) ys))

pub steps_push : (s : LinkSetup) (E : List Event) (e : Event) → steps s (E ++ e ∷ []) ≡ steps s E ++ option_to_list (gives s E e)
steps_push s E e = steps_after-append s [] E (e ∷ []) ∙ ap (λ w. steps s E ++ w) (append-nil (option_to_list (gives s E e)))

-- as many entries as steps
many : (s : LinkSetup) (pace : Pace) (port : PortState) (E : List Event) (T : List Timed) → PortStands s pace port E T → length (steps s E) ≡ length T
many s pace port E T h =
    ap length (sym h.asks) ∙ (length-map (entries_of T) (λ (k : Entry). k.step) ∙ length-map T (λ (x : Timed). x.entry))

asked-append : (T U : List Timed) → asked (entries_of (T ++ U)) ≡ asked (entries_of T) ++ asked (entries_of U)
asked-append T U = ap asked (map-append (λ (x : Timed). x.entry) T U) ∙ map-append (λ (k : Entry). k.step) (entries_of T) (entries_of U)

-- where the messages are these, and the entries ask what the events give
went : (s : LinkSetup) (pace : Pace) (new : PortState) (E : List Event) (T : List Timed) (e : Event) (U : List Timed) (L : List Late) (more : List Sent)
    → new.pace ≡ pace → L ≡ lates s pace (E ++ e ∷ []) (T ++ U) → asked (entries_of (T ++ U)) ≡ steps s (E ++ e ∷ [])
    → HandedOut s new (E ++ e ∷ []) L (drawn s pace E T ++ more) → Went s pace new E T e U more
went s pace new E T e U L more paced same asks sent =
    let E' = E ++ e ∷ [] in
    let all : drawn s pace E T ++ more ≡ drawn s pace E' (T ++ U) = sent.all ∙ ap (λ x. wire s E' (placed_late (history E') 0 x)) same in (
      record {
        paced = paced;
        stands = subst (λ Q. PortFor s new E' (lates s pace E' (T ++ U)) Q) all (subst (λ x. PortFor s new E' x (drawn s pace E T ++ more)) same sent.stands);
        asks = asks;
      },
      sym all,
    )

-- an event that gives a step, with its entry
went_step : (s : LinkSetup) (pace : Pace) (old new : PortState) (E : List Event) (T : List Timed) (e : Event) (x : Timed) (more : List Sent)
    → PortStands s pace old E T → new.pace ≡ pace → gives s E e ≡ Some x.entry.step
    → HandedOut s new (E ++ e ∷ [])
    (lates s pace E T ++ asked_at (last_moment (E ++ e ∷ [])) (laters pace (last_time (E ++ e ∷ [])) x.after (sid_of x.entry.step) x.entry.reply)) (drawn s pace E T ++ more)
    → Went s pace new E T e (x ∷ []) more
went_step s pace old new E T e x more h paced some sent =
    let pushed : steps s (E ++ e ∷ []) ≡ steps s E ++ x.entry.step ∷ [] = steps_push s E e ∙ ap (λ o. steps s E ++ option_to_list o) some in
    went s pace new E T e (x ∷ []) _ more paced (sym (lates_push s pace E e T x x.entry.step (many s pace old E T h) some))
    (asked-append T (x ∷ []) ∙ (ap (λ w. w ++ x.entry.step ∷ []) h.asks ∙ sym pushed)) sent

-- an event that gives none
went_quiet : (s : LinkSetup) (pace : Pace) (old new : PortState) (E : List Event) (T : List Timed) (e : Event) (more : List Sent)
    → PortStands s pace old E T → new.pace ≡ pace → gives s E e ≡ None → HandedOut s new (E ++ e ∷ []) (lates s pace E T) (drawn s pace E T ++ more)
    → Went s pace new E T e [] more
went_quiet s pace old new E T e more h paced none sent =
    let same : steps s (E ++ e ∷ []) ≡ steps s E =
    steps_push s E e ∙ (ap (λ o. steps s E ++ option_to_list o) none ∙ append-nil (steps s E)) in
    went s pace new E T e [] (lates s pace E T) more paced
    (sym (lates_quiet s pace E e T none) ∙ ap (λ w. lates s pace (E ++ e ∷ []) w) (sym (append-nil T)))
    (ap (λ w. asked (entries_of w)) (append-nil T) ∙ (h.asks ∙ sym same)) sent

-- ---- a frame

frame_is_no_tick : (e : Event) → IsTrue (is_frame e) → IsTrue (is_tick e) → ⊥
frame_is_no_tick (Physical bytes) frame tick = cc
frame_is_no_tick (Functional bytes) frame tick = cc
frame_is_no_tick (Ticks n) frame tick = cc

frame_time : (now : ℕ) (e : Event) → IsTrue (is_frame e) → time_after now e ≡ now
frame_time now (Physical bytes) frame = refl
frame_time now (Functional bytes) frame = refl
frame_time now (Ticks n) frame = cc

timed_step : (who : ℕ) (o : Option Step) (reply : Option (List ℕ)) (after : ℕ) → option_map (λ x. x.entry.step) (timed_of who o reply after) ≡ o
timed_step who None reply after = refl
timed_step who (Some x) reply after = refl

timed_by : (who : ℕ) (o : Option Step) (reply : Option (List ℕ)) (after : ℕ) → IfSome (timed_of who o reply after) (λ x. x.entry.who ≡ who)
timed_by who None reply after = tt
timed_by who (Some x) reply after = refl

-- the service that a step asks for, where there is one
abbrev pub asked_sid : Option Step → ℕ
asked_sid None = 0
asked_sid (Some step) = sid_of step

went_frame : (s : LinkSetup) (who : ℕ) (pace : Pace) (old new : PortState) (E : List Event) (T : List Timed) (e : Event) (o : Option Step)
    (reply : Option (List ℕ)) (after : ℕ) (more : List Sent) → IsTrue (is_frame e) → PortStands s pace old E T → new.pace ≡ pace → gives s E e ≡ o
    → (o ≡ None → reply ≡ None)
    → HandedOut s new (E ++ e ∷ [])
    (lates s pace E T ++ asked_at (last_moment (E ++ e ∷ [])) (laters pace (last_time E) after (asked_sid o) reply)) (drawn s pace E T ++ more)
    → Went s pace new E T e (option_to_list (timed_of who o reply after)) more
went_frame s who pace old new E T e None reply after more frame h paced is quiet sent =
    let d = last_moment (E ++ e ∷ []) in
    let none : lates s pace E T ++ asked_at d (laters pace (last_time E) after 0 reply) ≡ lates s pace E T =
    ap (λ r. lates s pace E T ++ asked_at d (laters pace (last_time E) after 0 r)) (quiet refl) ∙ append-nil (lates s pace E T) in
    went_quiet s pace old new E T e more h paced is (subst (λ L. HandedOut s new (E ++ e ∷ []) L (drawn s pace E T ++ more)) none sent)
went_frame s who pace old new E T e (Some step) reply after more frame h paced is quiet sent =
    went_step s pace old new E T e (record { entry = entry who step reply; after = after }) more h paced is
    (subst (λ t. HandedOut s new (E ++ e ∷ []) (lates s pace E T ++ asked_at (last_moment (E ++ e ∷ [])) (laters pace t after (sid_of step) reply))
    (drawn s pace E T ++ more)) (sym (last_time-frame E e frame)) sent)

-- a frame that was read is taken with the reply to the step that it gives
pub frame_took : (old new : PortState) (who : ℕ) (e : Event) (o : Option Step) (reply : Option (List ℕ)) (after : ℕ) (more : List Sent)
    → IsTrue (is_frame e) → EachHistory old.link (λ s E A Q. o ≡ gives s E e) → (o ≡ None → reply ≡ None)
    → new.link.now ≡ old.link.now → new.pace ≡ old.pace → Received old new e after (asked_sid o) reply more
    → PortTook old new who e (timed_of who o reply after) more
frame_took old new who e o reply after more frame step quiet time pace received = record {
  ticks = λ tick. absurd (frame_is_no_tick e frame tick);
  step = λ s E A Q h. timed_step who o reply after ∙ step s E A Q h;
  by = timed_by who o reply after;
  time = time ∙ sym (frame_time old.link.now e frame);
  most = omega (arith, time);
  short = λ E. omega (arith, last_time-frame E e frame);
  within = received.0;
  stands = λ s p E T h early.
      let out = received.1 s E (lates s p E T) (drawn s p E T) h.stands early in
      went_frame s who p old new E T e o reply after more frame h (pace ∙ h.paced) (sym (step s E _ _ h.stands.stands)) quiet
      (subst (λ q. HandedOut s new (E ++ e ∷ []) (lates s p E T ++ asked_at (last_moment (E ++ e ∷ [])) (laters q (last_time E) after (asked_sid o) reply))
      (drawn s p E T ++ more)) h.paced out);
}

-- ---- ticks

-- ticks that passed are taken with their entry
pub ticks_took : (old new : PortState) (who n : ℕ) (more : List Sent)
    → n ≤ 60000 → new.link.now ≡ min (old.link.now + n) last_tick → new.pace ≡ old.pace → Passed old new n more
    → PortTook old new who (Ticks n) (Some (timed_ticks who n)) more
ticks_took old new who n more most time pace passed = record {
  ticks = λ tick. refl;
  step = λ s E A Q h. sym (gives_ticks s E n);
  by = refl;
  time = time;
  most = omega (arith, time, most);
  short = λ E. omega (arith, last_time-ticks E n, most);
  within = passed.0;
  stands = λ s p E T h early.
      let out = passed.1 s E (lates s p E T) (drawn s p E T) h.stands (omega (arith, early, most)) in
      went_step s p old new E T (Ticks n) (timed_ticks who n) more h (pace ∙ h.paced) (gives_ticks s E n)
      (subst (λ L. HandedOut s new (E ++ Ticks n ∷ []) L (drawn s p E T ++ more)) (sym (append-nil (lates s p E T))) out);
}
