-- The requests of a tester are those of the journal.
use Rattle.std.proofs.Common.{◌≡◌, ℕ, Bool, true, false, Option, Some, None, List, [], ◌∷◌, ◌++◌, length, map, drop, refl, ap, ap₂, sym, ◌∙◌, append_assoc}
use Rattle.std.proofs.lemmas.List.{append-nil, map-append}
use Rattle.std.proofs.lemmas.List.Elements.{filter-append}
use Rattle.std.specs.List.{filter, flat_map, list_any}
use Rattle.std.specs.Prelude.{if◌then◌else◌}
use Rattle.diag_can.specs.Event.{Event, Physical, Functional, Ticks}
use Rattle.diag_pdu.specs.Kind.{kind, Kind, Single, First, Overflow, Consecutive, FlowControl, Ignored}
use Rattle.diag_pdu.specs.declared.setup.LinkSetup.{LinkSetup}
use Rattle.diag_pdu.specs.declared.step.Step.{Step}
use Rattle.diag_pdu.specs.declared.step.Step.TheVariants as step
use Rattle.diag_setup.specs.Setup.{link_of}
use Rattle.diag_setup.specs.declared.raw.RawSetup.{RawSetup}
use Rattle.diag_tp.specs.Gives.{gives}
use Rattle.diag_ecu.specs.State.{State, opening}
use Rattle.diag_desk.specs.Legal.{after, after_step, reply_to}
use Rattle.diag_desk.specs.declared.entry.Entry.{Entry}
use Rattle.diag_world.specs.Weaving.{steps_of, steps_of_after}
use Rattle.diag_world.proofs.Weaves.{steps_of_after-append}
use Rattle.diag_bus.specs.Events.{events_of, line_events, line_said}
use Rattle.diag_bus.specs.Text.{answered, ecu_after, run_of}
use Rattle.diag_bus.proofs.Lines.{events_push}
use Rattle.diag_exchange.specs.Asking.{Course, and_behind, asked, change_last, comes_in, completes, courses, courses_after, finish, happens, hearing, hears_it, hears_no_more, is_candidate, is_loud_candidate, with_answer}
use Rattle.diag_exchange.specs.declared.happening.Expected.{Expected}
use Rattle.diag_exchange.specs.declared.happening.Happening.{Happening}
use Rattle.diag_exchange.specs.declared.happening.Happening.TheVariants.{Asked, Began, Came, Lost}
use Rattle.diag_exchange.specs.declared.happening.Heard.{Heard}
use Rattle.diag_exchange.specs.declared.happening.CaptureLine.{CaptureLine}
use Rattle.diag_exchange.specs.declared.happening.AskedRequest.{AskedRequest}
use Rattle.diag_exchange.specs.declared.happening.Start.{Start}
use Rattle.diag_exchange.proofs.Lists.{change_last_here, change_later, change_not_here}
use Rattle.diag_compare.specs.Hearing.{asks, capture_line_of, entries_by, entry_happens, happen_after, happenings, in_states, is_of, line_happens, time_of_line, unit_events, unit_frame, unit_side}
use Rattle.diag_listen.specs.Listening.{all_happen, breaks, came, frame_happens, lost_if, receives, unit_happens}
use Rattle.diag_compare.specs.Meaning.{Question, entry_question, question, question_of}

-- ---- the requests of what happened

abbrev asked_one : Happening → List Question
asked_one (Asked r) = (r.functional, r.bytes, r.expected) ∷ []
asked_one h = []

abbrev questions : List Happening → List Question
questions hs = flat_map asked_one hs

module _ (p : Course → Bool) (f : Course → Course) (same : (c : Course) → question (f c) ≡ question c) where
  same_case : (c : Course) (cs : List Course) → map question (change_last p f cs) ≡ map question cs → (a h : Bool) → list_any p cs ≡ a → p c ≡ h
      → map question (change_last p f (c ∷ cs)) ≡ map question (c ∷ cs)
  same_case c cs rest true h some here = ap (map question) (change_later p f c cs some) ∙ ap (λ w. question c ∷ w) rest
  same_case c cs rest false true none here = ap (map question) (change_last_here p f c cs none here) ∙ ap (λ q. q ∷ map question cs) (same c)
  same_case c cs rest false false none here = ap (map question) (change_not_here p f c cs none here)

  same_questions : (cs : List Course) → map question (change_last p f cs) ≡ map question cs
  same_questions [] = refl
  same_questions (c ∷ cs) = same_case c cs (same_questions cs) (list_any p cs) (p c) refl refl

behind_questions : (r : AskedRequest) (cs : List Course) → map question (map (and_behind r) cs) ≡ map question cs
behind_questions r [] = refl
behind_questions r (c ∷ cs) = ap (λ w. question c ∷ w) (behind_questions r cs)

hear_questions : (start : Start) (cs : List Course) (b : Bool)
    → map question (if b then change_last (is_loud_candidate start) hearing cs else change_last (is_candidate start) hearing cs) ≡ map question cs
hear_questions start cs true = same_questions (is_loud_candidate start) hearing (λ c. refl) cs
hear_questions start cs false = same_questions (is_candidate start) hearing (λ c. refl) cs

finish_questions : (o : Option Heard) (cs : List Course) → map question (finish o cs) ≡ map question cs
finish_questions None cs = same_questions hears_it hears_no_more (λ c. refl) cs
finish_questions (Some m) cs = same_questions hears_it (with_answer m) (λ c. refl) cs

more_questions : (before : Option Start) (h : Happening) (cs : List Course) → map question (happens before h cs) ≡ map question cs ++ asked_one h
more_questions before (Asked r) cs = map-append question (map (and_behind r) cs) (asked r ∷ []) ∙ ap (λ w. w ++ asked_one (Asked r)) (behind_questions r cs)
more_questions before (Began start) cs = hear_questions start cs (list_any (is_loud_candidate start) cs) ∙ sym (append-nil (map question cs))
more_questions before (Came bytes) cs = finish_questions (completes before (Came bytes)) cs ∙ sym (append-nil (map question cs))
more_questions before Lost cs = finish_questions None cs ∙ sym (append-nil (map question cs))

after_questions : (before : Option Start) (cs : List Course) (hs : List Happening) → map question (courses_after before cs hs) ≡ map question cs ++ questions hs
after_questions before cs [] = sym (append-nil (map question cs))
after_questions before cs (h ∷ hs) =
    after_questions (comes_in before h) (happens before h cs) hs ∙ (ap (λ w. w ++ questions hs) (more_questions before h cs)
    ∙ append_assoc (map question cs) (asked_one h) (questions hs))

-- ---- over lists

flat_append : {X Y : Type 0} (f : X → List Y) (xs ys : List X) → flat_map f (xs ++ ys) ≡ flat_map f xs ++ flat_map f ys
flat_append f [] ys = refl
flat_append f (x ∷ xs) ys = ap (λ w. f x ++ w) (flat_append f xs ys) ∙ sym (append_assoc (f x) (flat_map f xs) (flat_map f ys))

pub drop_front : {X : Type 0} (xs ys : List X) → drop (length xs) (xs ++ ys) ≡ ys
drop_front [] ys = refl
drop_front (x ∷ xs) ys = drop_front xs ys

-- ---- the unit asks nothing

lost_asks : (b : Bool) → questions (lost_if b) ≡ []
lost_asks true = refl
lost_asks false = refl

came_asks : (o : Option Step) (b : Bool) → questions (came o b) ≡ []
came_asks None b = lost_asks b
came_asks (Some (step.Request r)) b = refl
came_asks (Some (step.Ticks n)) b = lost_asks b

frame_asks : (s : LinkSetup) (at : CaptureLine) (E : List Event) (bytes : List ℕ) (pci : Kind) → questions (frame_happens s at E bytes pci) ≡ []
frame_asks s at E bytes (Single payload) = flat_append asked_one (lost_if (receives s E)) _ ∙ ap (λ w. w ++ []) (lost_asks (receives s E))
frame_asks s at E bytes (First len rx_dl head) = flat_append asked_one (lost_if (receives s E)) _ ∙ ap (λ w. w ++ []) (lost_asks (receives s E))
frame_asks s at E bytes Overflow = lost_asks (receives s E)
frame_asks s at E bytes (Consecutive sequence_number part) = came_asks (gives s E (Physical bytes)) (breaks s E (Physical bytes))
frame_asks s at E bytes (FlowControl flow_status block_size st_min) = refl
frame_asks s at E bytes Ignored = refl

unit_asks : (s : LinkSetup) (at : CaptureLine) (E : List Event) (e : Event) → questions (unit_happens s at E e) ≡ []
unit_asks s at E (Physical bytes) = frame_asks s at E bytes (kind bytes s.max_request)
unit_asks s at E (Functional bytes) = refl
unit_asks s at E (Ticks n) = lost_asks (breaks s E (Ticks n))

all_ask : (s : LinkSetup) (at : CaptureLine) (E es : List Event) → questions (all_happen s at E es) ≡ []
all_ask s at E [] = refl
all_ask s at E (e ∷ es) = flat_append asked_one (unit_happens s at E e) (all_happen s at (E ++ e ∷ []) es)
    ∙ ap₂ (λ (x y : List Question). x ++ y) (unit_asks s at E e) (all_ask s at (E ++ e ∷ []) es)

-- ---- the journal

answered_append : (s : State) (xs ys : List (ℕ × Step)) → answered s (xs ++ ys) ≡ answered s xs ++ answered (after s (answered s xs)) ys
answered_append s [] ys = refl
answered_append s (p ∷ xs) ys = ap (λ w. record { who = p.0; step = p.1; reply = reply_to s p.0 p.1 } ∷ w) (answered_append (after_step s p.0 p.1) xs ys)

pub states_append : (s : State) (xs ys : List Entry) → in_states s (xs ++ ys) ≡ in_states s xs ++ in_states (after s xs) ys
states_append s [] ys = refl
states_append s (e ∷ xs) ys = ap (λ w. (s, e) ∷ w) (states_append (after_step s e.who e.step) xs ys)

module _ (setup : RawSetup) where
  -- the entries that a line gives
  abbrev given : List (List ℕ) → List ℕ → List Entry
  given past line = answered (ecu_after setup past) (steps_of_after (link_of setup) (events_of setup past) (line_events setup past line))

  run_push : (past : List (List ℕ)) (line : List ℕ) → run_of setup (events_of setup (past ++ line ∷ [])) ≡ run_of setup
      (events_of setup past) ++ given past line
  run_push past line =
      ap (run_of setup) (events_push setup past line)
      ∙ (ap (answered (opening setup)) (steps_of_after-append (link_of setup) [] (events_of setup past) (line_events setup past line))
      ∙ answered_append (opening setup) (steps_of (link_of setup) (events_of setup past)) (steps_of_after (link_of setup) (events_of setup past)
      (line_events setup past line)))

  entries_are : (past : List (List ℕ)) (line : List ℕ) → entries_by setup past line ≡ in_states (ecu_after setup past) (given past line)
  entries_are past line =
      ap (in_states (ecu_after setup past)) (ap (drop (length (run_of setup (events_of setup past)))) (run_push past line)
      ∙ drop_front (run_of setup (events_of setup past)) (given past line))

  states_push : (past : List (List ℕ)) (line : List ℕ) → in_states (opening setup) (run_of setup (events_of setup (past ++ line ∷ [])))
      ≡ in_states (opening setup) (run_of setup (events_of setup past)) ++ entries_by setup past line
  states_push past line =
      ap (in_states (opening setup)) (run_push past line)
      ∙ (states_append (opening setup) (run_of setup (events_of setup past)) (given past line)
      ∙ ap (λ w. in_states (opening setup) (run_of setup (events_of setup past)) ++ w) (sym (entries_are past line)))

-- ---- all lines

module _ (expects : State → Entry → Expected) (setup : RawSetup) (t : ℕ) where
  one_asks : (at : CaptureLine) (x : Step) (e : Expected) → questions (asks at x e) ≡ question_of x e
  one_asks at (step.Request r) e = refl
  one_asks at (step.Ticks n) e = refl

  entries_ask : (at : CaptureLine) (es : List (State × Entry)) → questions (flat_map (entry_happens expects setup t at) es) ≡ flat_map (entry_question expects) es
  entries_ask at [] = refl
  entries_ask at (e ∷ es) =
      flat_append asked_one (asks at e.1.step (expects e.0 e.1)) (flat_map (entry_happens expects setup t at) es)
      ∙ ap₂ (λ (x y : List Question). x ++ y) (one_asks at e.1.step (expects e.0 e.1)) (entries_ask at es)

  abbrev own_of : List (State × Entry) → List Question
  own_of es = flat_map (entry_question expects) (filter (is_of t) es)

  line_asks : (past : List (List ℕ)) (line : List ℕ) → questions (line_happens expects setup t past line) ≡ own_of (entries_by setup past line)
  line_asks past line =
      let at = capture_line_of setup past line in
      let E = unit_events setup t past in
      let time = time_of_line setup past (line_said setup line) in
      let first = all_happen (unit_side setup t) at E time in
      let second = flat_map (entry_happens expects setup t at) (filter (is_of t) (entries_by setup past line)) in
      let third = all_happen (unit_side setup t) at (E ++ time) (unit_frame setup t (line_said setup line)) in
      flat_append asked_one (first ++ second) third
      ∙ (ap₂ (λ (x y : List Question). x ++ y)
      (flat_append asked_one first second ∙ ap₂ (λ (x y : List Question). x ++ y) (all_ask (unit_side setup t) at E time)
      (entries_ask at (filter (is_of t) (entries_by setup past line))))
      (all_ask (unit_side setup t) at (E ++ time) (unit_frame setup t (line_said setup line)))
      ∙ append-nil (own_of (entries_by setup past line)))

  abbrev whole : List (List ℕ) → List Question
  whole lines = own_of (in_states (opening setup) (run_of setup (events_of setup lines)))

  whole_push : (past : List (List ℕ)) (line : List ℕ) → whole (past ++ line ∷ []) ≡ whole past ++ own_of (entries_by setup past line)
  whole_push past line =
      let old = in_states (opening setup) (run_of setup (events_of setup past)) in
      let more = entries_by setup past line in
      ap own_of (states_push setup past line)
      ∙ (ap (flat_map (entry_question expects)) (filter-append (is_of t) old more)
      ∙ flat_append (entry_question expects) (filter (is_of t) old) (filter (is_of t) more))

  all_questions : (past lines : List (List ℕ)) → whole past ++ questions (happen_after expects setup t past lines) ≡ whole (past ++ lines)
  all_questions past [] = append-nil (whole past) ∙ ap whole (sym (append-nil past))
  all_questions past (line ∷ lines) =
      let here = line_happens expects setup t past line in
      let rest = happen_after expects setup t (past ++ line ∷ []) lines in
      ap (λ w. whole past ++ w) (flat_append asked_one here rest ∙ ap (λ w. w ++ questions rest) (line_asks past line))
      ∙ (sym (append_assoc (whole past) (own_of (entries_by setup past line)) (questions rest))
      ∙ (ap (λ w. w ++ questions rest) (sym (whole_push past line))
      ∙ (all_questions (past ++ line ∷ []) lines ∙ ap whole (append_assoc past (line ∷ []) lines))))

  pub asked_are : (lines : List (List ℕ)) → map question (courses (happenings expects setup t lines)) ≡ whole lines
  asked_are lines = after_questions None [] (happenings expects setup t lines) ∙ all_questions [] lines
