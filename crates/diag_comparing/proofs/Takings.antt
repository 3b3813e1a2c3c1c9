-- A line taken by each tester.
use Rattle.std.proofs.Common.{◌≡◌, ◌≤◌, ◌<◌, inl, inr, ℕ, zero, suc, ◌+◌, Bool, true, false, Option, Some, None, List, [], ◌∷◌, ◌++◌, map, refl, ap, ap₂, subst, sym, ◌∙◌, append_assoc, arith}
use Rattle.std.proofs.lemmas.List.{append-nil, map-append}
use Rattle.std.specs.List.{filter, flat_map}
use Rattle.std.specs.Prelude.{◌==◌, if◌then◌else◌, slice_get, slice_set}
use Rattle.diag_can.specs.Log.{waited}
use Rattle.diag_can.specs.declared.bus_line.BusLine.{BusLine}
use Rattle.diag_can.specs.Event.{Event, Physical}
use Rattle.diag_can.specs.declared.frame.Frame.{Frame}
use Rattle.diag_pdu.specs.Cut.{counted_from}
use Rattle.diag_pdu.specs.declared.setup.LinkSetup.{LinkSetup}
use Rattle.diag_pdu.specs.declared.step.Step.{Step}
use Rattle.diag_pdu.specs.declared.step.Step.TheVariants as step
use Rattle.diag_setup.specs.Setup.{ids_of}
use Rattle.diag_setup.specs.declared.raw.RawSetup.{RawSetup}
use Rattle.diag_ecu.specs.State.{State}
use Rattle.diag_desk.specs.declared.entry.Entry.{Entry}
use Rattle.diag_world.proofs.Worlds.{set_cases}
use Rattle.diag_bus.specs.Events.{frame_said, line_said}
use Rattle.diag_bus.specs.Text.{ecu_after}
use Rattle.diag_exchange.specs.Exchanges.{over_after}
use Rattle.diag_exchange.specs.declared.happening.Happening.{Happening}
use Rattle.diag_exchange.specs.Over.{Over}
use Rattle.diag_exchange.specs.declared.happening.CaptureLine.{CaptureLine}
use Rattle.diag_expect.specs.Entered.{Entered}
use Rattle.diag_listen.specs.Listening.{all_happen}
use Rattle.diag_judge.specs.Judging.{Judges, JudgesLine, frame_events, judged_for, line_happens, request_happens, requests_happen}
use Rattle.diag_judge.specs.declared.tester.Tester.{Tester}
use Rattle.diag_judge.specs.declared.tester.Judged.{Judged}
use Rattle.diag_compare.specs.Compare.{beside, over_by}
use Rattle.diag_compare.specs.Expects.{expects, step_expects}
use Rattle.diag_compare.specs.Hearing.{asks, capture_line_of, entry_happens, frame_with, happenings, in_states, is_of, time_of_line, unit_events, unit_frame, unit_side}
use Rattle.diag_compare.specs.Hearing as hearing
use Rattle.diag_comparing.specs.Keeping.{IsLine, IsTester, bytes_with, entered_by, entry_entered, judged_pair, step_entered}
use Rattle.diag_compare.proofs.Messages.{unit_push}
use Rattle.diag_compare.proofs.Telling.{by_line, happen_push, with_line}

-- ---- requests

pub flat_append : {X Y : Type 0} (f : X → List Y) (xs ys : List X) → flat_map f (xs ++ ys) ≡ flat_map f xs ++ flat_map f ys
flat_append f [] ys = refl
flat_append f (x ∷ xs) ys = ap (λ w. f x ++ w) (flat_append f xs ys) ∙ sym (append_assoc (f x) (flat_map f xs) (flat_map f ys))

-- the requests that are complete are those that were entered
step_asked : (setup : RawSetup) (at : CaptureLine) (s : State) (who : ℕ) (step : Step) (reply : Option (List ℕ))
    → asks at step (step_expects setup s who step reply) ≡ requests_happen setup at (step_entered s who step reply)
step_asked setup at s who (step.Request request) reply = refl
step_asked setup at s who (step.Ticks n) reply = refl

asked_entered : (setup : RawSetup) (at : CaptureLine) (t : ℕ) (es : List (State × Entry))
    → flat_map (entry_happens (expects setup) setup t at) es ≡ requests_happen setup at (flat_map entry_entered es)
asked_entered setup at t [] = refl
asked_entered setup at t (e ∷ es) =
    ap₂ (λ (x y : List Happening). x ++ y) (step_asked setup at e.0 e.1.who e.1.step e.1.reply) (asked_entered setup at t es)
    ∙ sym (map-append (request_happens setup at) (entry_entered e) (flat_map entry_entered es))

-- ---- the frame of a line

frame_is : (id : ℕ) (frame : Option Frame) → frame_events (bytes_with id frame) ≡ frame_with id frame
frame_is id None = refl
frame_is id (Some frame) = pick (frame.id == id)
  where
    pick : (b : Bool) → frame_events (if b then Some frame.bytes else None) ≡ (if b then Physical frame.bytes ∷ [] else [])
    pick true = refl
    pick false = refl

-- exchanges beside their tester
pub pairs_of : (t : ℕ) (os : List Over) → map (judged_for t) os ≡ map judged_pair (map (beside t) os)
pairs_of t [] = refl
pairs_of t (o ∷ os) = ap (λ w. judged_for t o ∷ w) (pairs_of t os)

-- one tester more
counted_more : (a n : ℕ) → counted_from a (suc n) ≡ counted_from a n ++ (a + n) ∷ []
counted_more a zero = ap (λ m. m ∷ []) (omega arith)
counted_more a (suc n) = ap (λ w. a ∷ w) (counted_more (suc a) n ∙ ap (λ m. counted_from (suc a) n ++ m ∷ []) (omega arith))

pub counted_next : (i : ℕ) → counted_from 1 (i + 1) ≡ counted_from 1 i ++ (i + 1) ∷ []
counted_next i =
    let next : i + 1 ≡ suc i = omega arith in
    let at : 1 + i ≡ i + 1 = omega arith in
    ap (counted_from 1) next ∙ (counted_more 1 i ∙ ap (λ m. counted_from 1 i ++ m ∷ []) at)

-- ---- a line to a tester

module _ (setup : RawSetup) (lines : List (List ℕ)) (line : List ℕ) (K : List Entry) (said : BusLine) (span : ℕ) (at : CaptureLine)
    (h : IsLine setup lines line said span at K) (t : ℕ) (bytes : Option (List ℕ))
    (frame : bytes ≡ bytes_with (ids_of setup t).response (frame_said said)) where
  abbrev before : List Event
  before = unit_events setup t lines

  time_is : waited span ≡ time_of_line setup lines (line_said setup line)
  time_is = h.waits ∙ sym (ap (time_of_line setup lines) h.says)

  frame_of : frame_events bytes ≡ unit_frame setup t (line_said setup line)
  frame_of = ap frame_events frame ∙ (frame_is (ids_of setup t).response (frame_said said) ∙ sym (ap (unit_frame setup t) h.says))

  events_are : (before ++ waited span) ++ frame_events bytes ≡ unit_events setup t (lines ++ line ∷ [])
  events_are = append_assoc before (waited span) (frame_events bytes)
      ∙ (ap₂ (λ (x y : List Event). before ++ (x ++ y)) time_is frame_of ∙ sym (unit_push (expects setup) setup t [] lines line))

  happen_is : line_happens setup (unit_side setup t) at before span (entered_by setup lines K t) bytes
      ≡ hearing.line_happens (expects setup) setup t lines line
  happen_is =
      let entries = ap (λ es. flat_map (entry_happens (expects setup) setup t (capture_line_of setup lines line)) (filter (is_of t) es)) (sym h.entries) in
      let asked = sym (asked_entered setup (capture_line_of setup lines line) t (filter (is_of t) (in_states (ecu_after setup lines) K))) ∙ entries in
      ap (λ p. line_happens setup (unit_side setup t) p before span (entered_by setup lines K t) bytes) h.stands
      ∙ ap₂ (λ (x y : List Event). all_happen (unit_side setup t) (capture_line_of setup lines line) before x
      ++ requests_happen setup (capture_line_of setup lines line) (entered_by setup lines K t)
      ++ all_happen (unit_side setup t) (capture_line_of setup lines line) (before ++ x) y) time_is frame_of
      ∙ ap (λ w. all_happen (unit_side setup t) (capture_line_of setup lines line) before (time_of_line setup lines (line_said setup line)) ++ w
      ++ all_happen (unit_side setup t) (capture_line_of setup lines line) (before ++ time_of_line setup lines (line_said setup line)) (unit_frame setup t (line_said setup line))) asked

  abbrev so_far : List Happening
  so_far = happenings (expects setup) setup t lines

  module _ (own new : Tester) (judged judged' : List Judged) (own_is : IsTester setup lines K t own)
      (took : JudgesLine setup at t own new judged judged' span bytes) (link_setup : new.listener.setup ≡ own.listener.setup) (none : new.entered.items ≡ []) where
    happened_is : line_happens setup own.listener.setup at before span own.entered.items bytes ≡ hearing.line_happens (expects setup) setup t lines line
    happened_is = ap₂ (λ (s : LinkSetup) (e : List Entered). line_happens setup s at before span e bytes) own_is.link_setup own_is.entered ∙ happen_is

    all_is : so_far ++ line_happens setup own.listener.setup at before span own.entered.items bytes
        ≡ happenings (expects setup) setup t (lines ++ line ∷ [])
    all_is = ap (λ w. so_far ++ w) happened_is ∙ sym (happen_push (expects setup) setup t [] lines line)

    pub tester_is : IsTester setup (lines ++ line ∷ []) [] t new
    tester_is = record {
      judges = subst (λ (E : List Event). Judges new E (happenings (expects setup) setup t (lines ++ line ∷ []))) events_are
          (subst (λ w. Judges new ((before ++ waited span) ++ frame_events bytes) w) all_is (took before so_far own_is.judges).0);
      link_setup = link_setup ∙ own_is.link_setup;
      entered = none;
    }

    pub judged_is : judged' ≡ judged ++ map judged_pair (over_by (expects setup) setup lines line t)
    judged_is =
        (took before so_far own_is.judges).1
        ∙ (ap (λ w. judged ++ map (judged_for t) (over_after so_far w)) happened_is
        ∙ ap (λ w. judged ++ w) (pairs_of t (with_line (expects setup) setup t lines line) ∙ ap (map judged_pair) (sym (by_line (expects setup) setup t lines line))))

-- one that heard nothing
pub new_tester : (setup : RawSetup) (t : ℕ) (own : Tester) → Judges own [] [] → own.entered.items ≡ [] → own.listener.setup ≡ unit_side setup t
    → IsTester setup [] [] t own
new_tester setup t own judges entered link_setup = record { judges = judges; link_setup = link_setup; entered = entered }

-- ---- all testers

-- those before an index took the line
abbrev pub AreTakenTo : RawSetup → List (List ℕ) → List ℕ → List Entry → List Tester → ℕ → Type 0
AreTakenTo setup lines line K testers index = (i : ℕ) (tester : Tester) → slice_get testers i ≡ Some tester
    → (i < index → IsTester setup (lines ++ line ∷ []) [] (i + 1) tester) × (index ≤ i → IsTester setup lines K (i + 1) tester)

module _ (setup : RawSetup) (lines : List (List ℕ)) (line : List ℕ) (K : List Entry) where
  pub taken_one : (testers : List Tester) (i : ℕ) (new : Tester) → AreTakenTo setup lines line K testers i
      → IsTester setup (lines ++ line ∷ []) [] (i + 1) new → AreTakenTo setup lines line K (slice_set testers i new) (i + 1)
  taken_one testers i new h own = λ k tester is. elim (set_cases testers i k new tester is) [
    | inl p ↦ (
      λ less. subst (λ (j : ℕ). IsTester setup (lines ++ line ∷ []) [] (j + 1) tester) (sym p.0)
          (subst (λ (x : Tester). IsTester setup (lines ++ line ∷ []) [] (i + 1) x) (sym p.1) own),
      λ above. absurd (omega (arith, above, p.0)),
    )
    | inr p ↦ (
      λ less. (h k tester p.1).0 (omega (arith, less, p.0)),
      λ above. (h k tester p.1).1 (omega (arith, above)),
    )
  ]

  pub over_more : (i : ℕ) → flat_map (over_by (expects setup) setup lines line) (counted_from 1 (i + 1))
      ≡ flat_map (over_by (expects setup) setup lines line) (counted_from 1 i) ++ over_by (expects setup) setup lines line (i + 1)
  over_more i =
      let f = over_by (expects setup) setup lines line in
      ap (flat_map f) (counted_next i) ∙ (flat_append f (counted_from 1 i) ((i + 1) ∷ [])
      ∙ ap (λ w. flat_map f (counted_from 1 i) ++ w) (append-nil (f (i + 1))))

  -- one tester more was judged
  pub judged_more : (judged now now' : List Judged) (i : ℕ)
      → now ≡ judged ++ map judged_pair (flat_map (over_by (expects setup) setup lines line) (counted_from 1 i))
      → now' ≡ now ++ map judged_pair (over_by (expects setup) setup lines line (i + 1))
      → now' ≡ judged ++ map judged_pair (flat_map (over_by (expects setup) setup lines line) (counted_from 1 (i + 1)))
  judged_more judged now now' i first more =
      let f = over_by (expects setup) setup lines line in
      more ∙ (ap (λ w. w ++ map judged_pair (f (i + 1))) first
      ∙ (append_assoc judged (map judged_pair (flat_map f (counted_from 1 i))) (map judged_pair (f (i + 1)))
      ∙ ap (λ w. judged ++ w) (sym (map-append judged_pair (flat_map f (counted_from 1 i)) (f (i + 1))) ∙ ap (map judged_pair) (sym (over_more i)))))
