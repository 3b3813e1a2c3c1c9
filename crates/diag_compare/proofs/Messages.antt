-- The messages of the unit are what the events of its side give.
use Rattle.std.proofs.Common.{◌≡◌, ◌≤◌, ◌<◌, ℕ, zero, suc, ◌+◌, ◌/◌, ◌%◌, Bool, true, false, Option, Some, None, List, [], ◌∷◌, ◌++◌, length, length-append, map, replicate, refl, ap, ap₂, subst, sym, ◌∙◌, append_assoc, arith}
use Rattle.std.proofs.lemmas.Bool.{eqb-true}
use Rattle.std.proofs.lemmas.Bool.Decides.{nat_tests}
use Rattle.std.proofs.lemmas.List.{append-nil, map-append}
use Rattle.std.specs.List.{filter, flat_map}
use Rattle.std.specs.Option.{option_to_list}
use Rattle.std.specs.Prelude.{Result, Ok, Err, if◌then◌else◌, is_some, nat_lt, not, option_and_then, ◌==◌, ◌&&◌}
use Rattle.diag_can.specs.Log.{silence, waited}
use Rattle.diag_can.specs.declared.bus_line.BusLine.{BusLine}
use Rattle.diag_can.specs.declared.bus_line.BusLine.TheVariants as said
use Rattle.diag_can.specs.declared.fault.LineFault.{LineFault}
use Rattle.diag_can.specs.Event.{Event, Physical, Functional, Ticks}
use Rattle.diag_can.specs.declared.frame.Frame.{Frame}
use Rattle.diag_can.specs.declared.log.Timing.TheVariants.{Stamps}
use Rattle.diag_pdu.specs.declared.length.DataLength.{DataLength}
use Rattle.diag_pdu.specs.Length.{single_most}
use Rattle.diag_pdu.specs.Cut.{consecutive_count}
use Rattle.diag_pdu.specs.Kind.{kind, Kind, Single, First, Overflow, Consecutive, FlowControl, Ignored}
use Rattle.diag_pdu.specs.Request.{request_of}
use Rattle.diag_pdu.specs.declared.setup.LinkSetup.{LinkSetup}
use Rattle.diag_pdu.specs.declared.step.Step.{Step}
use Rattle.diag_pdu.specs.declared.step.Step.TheVariants as step
use Rattle.diag_setup.specs.Setup.{ids_of}
use Rattle.diag_setup.specs.declared.raw.RawSetup.{RawSetup}
use Rattle.diag_tp.specs.Gives.{completed, gives, physical_step, steps, steps_after}
use Rattle.diag_tp.specs.Moments.{history, now}
use Rattle.diag_tp.specs.Reception.{Reception, in_time, is_next, is_whole, message_of, open_at, with_frame, with_part}
use Rattle.diag_pdu.proofs.Lengths.{count-some}
use Rattle.diag_tp.proofs.Moments.{after-append, history-more}
use Rattle.diag_ecu.specs.State.{State}
use Rattle.diag_desk.specs.declared.entry.Entry.{Entry}
use Rattle.diag_bus.specs.Events.{frame_said, line_said, reference}
use Rattle.diag_exchange.specs.Asking.{comes_in, coming_after, completes}
use Rattle.diag_exchange.specs.declared.happening.Expected.{Expected}
use Rattle.diag_exchange.specs.declared.happening.Happening.{Happening}
use Rattle.diag_exchange.specs.declared.happening.Happening.TheVariants.{Came}
use Rattle.diag_exchange.specs.declared.happening.CaptureLine.{CaptureLine}
use Rattle.diag_exchange.specs.declared.happening.Start.{Start}
use Rattle.diag_exchange.proofs.Lists.{Each}
use Rattle.diag_compare.specs.Hearing.{asks, capture_line_of, entries_by, entry_happens, frame_with, happen_after, happenings, is_of, line_happens, time_of_line, unit_after, unit_events, unit_frame, unit_side}
use Rattle.diag_listen.specs.Listening.{all_happen, began, breaks, came, frame_happens, is_unfinished, lost_if, receives, unit_happens}
use Rattle.diag_compare.proofs.FirstFrames.{IsFirst, first_of_kind}
use Rattle.diag_compare.specs.Meaning.{bytes_heard, message_given, messages_after}

some_parts : (rx_dl : DataLength) (len : ℕ) → single_most rx_dl < len → nat_lt 0 (consecutive_count rx_dl len) ≡ true
some_parts rx_dl len long = let some = count-some rx_dl len long in grind (arith, nat_tests, some)

-- ---- what is heard

abbrev heard : Option Start → List Happening → List (List ℕ)
heard c hs = map bytes_heard (messages_after c hs)

pub messages_append : (c : Option Start) (xs ys : List Happening) → messages_after c (xs ++ ys) ≡ messages_after c xs ++ messages_after (coming_after c xs) ys
messages_append c [] ys = refl
messages_append c (x ∷ xs) ys = ap (λ w. option_to_list (completes c x) ++ w) (messages_append (comes_in c x) xs ys)
    ∙ sym (append_assoc (option_to_list (completes c x)) (messages_after (comes_in c x) xs) (messages_after (coming_after (comes_in c x) xs) ys))

heard_append : (c : Option Start) (xs ys : List Happening) → heard c (xs ++ ys) ≡ heard c xs ++ heard (coming_after c xs) ys
heard_append c xs ys = ap (map bytes_heard) (messages_append c xs ys) ∙ map-append bytes_heard (messages_after c xs) (messages_after (coming_after c xs) ys)

pub coming_append : (c : Option Start) (xs ys : List Happening) → coming_after c (xs ++ ys) ≡ coming_after (coming_after c xs) ys
coming_append c [] ys = refl
coming_append c (x ∷ xs) ys = coming_append (comes_in c x) xs ys

-- what an event gives, and whether a message is coming in then
abbrev Gives : Option Start → List Happening → Option Step → Bool → Type 0
Gives c hs o b = (heard c hs ≡ flat_map message_given (option_to_list o)) × (is_some (coming_after c hs) ≡ b)

lost_heard : (c : Option Start) (b : Bool) → heard c (lost_if b) ≡ []
lost_heard None true = refl
lost_heard (Some s) true = refl
lost_heard c false = refl

-- a reception that was under way isn't any more, or none was
lost_coming : (c : Option Start) (b : Bool) → is_some c ≡ b → is_some (coming_after c (lost_if b)) ≡ false
lost_coming c true e = refl
lost_coming c false e = e

lost_begins : (c : Option Start) (b : Bool) (at : CaptureLine) (bytes : List ℕ) → Gives c (lost_if b ++ began at bytes ∷ []) None true
lost_begins None true at bytes = (refl, refl)
lost_begins (Some s) true at bytes = (refl, refl)
lost_begins None false at bytes = (refl, refl)
lost_begins (Some s) false at bytes = (refl, refl)

lost_single : (c : Option Start) (b : Bool) (at : CaptureLine) (bytes : List ℕ) → Gives c (lost_if b ++ began at bytes ∷ Came bytes ∷ [])
    (Some (step.Request (request_of false bytes))) false
lost_single None true at bytes = (refl, refl)
lost_single (Some s) true at bytes = (refl, refl)
lost_single None false at bytes = (refl, refl)
lost_single (Some s) false at bytes = (refl, refl)

-- ---- a ConsecutiveFrame

some_of : (c : Option Start) → is_some c ≡ true → (s : Start) × (c ≡ Some s)
some_of None e = cc
some_of (Some s) e = (s, refl)

lost_by : (c : Option Start) (u v : Bool) → is_some c ≡ u → v ≡ false → Gives c (came None (u && not v)) None v
lost_by c true false e f = (lost_heard c true, refl)
lost_by c false false e f = (refl, e)
lost_by c u true e f = cc

whole_case : (c : Option Start) (r : Reception) (u : Bool) → is_some c ≡ true → u ≡ true → length r.parts ≤ consecutive_count r.rx_dl r.len → (w : Bool)
    → is_whole r ≡ w
    → Gives c (came (if w then Some (step.Request (request_of false (message_of r))) else None) (u && not (is_unfinished (Some r))))
    (if w then Some (step.Request (request_of false (message_of r))) else None) (is_unfinished (Some r))
whole_case c r u e is few true whole =
    let s = some_of c e in
    let done : is_unfinished (Some r) ≡ false = grind (arith, nat_tests, eqb-true (length r.parts) (consecutive_count r.rx_dl r.len) whole) in
    (ap (λ (c : Option Start). heard c (Came (message_of r) ∷ [])) s.1, sym done)
whole_case c r u e is few false whole =
    let more : is_unfinished (Some r) ≡ true = grind (arith, nat_tests) in
    let none : (u && not (is_unfinished (Some r))) ≡ false = ap₂ (λ a b. a && not b) is more in
    (ap (λ (b : Bool). heard c (lost_if b)) none, ap (λ (b : Bool). is_some (coming_after c (lost_if b))) none ∙ (e ∙ sym more))

next_below : (r : Reception) (sequence_number : ℕ) (part : List ℕ) → is_next r sequence_number part ≡ true → nat_lt (length r.parts) (consecutive_count r.rx_dl r.len) ≡ true
next_below r sequence_number part e = grind arith

one_further : (r : Reception) (part : List ℕ) → nat_lt (length r.parts) (consecutive_count r.rx_dl r.len) ≡ true
    → length (r.parts ++ part ∷ []) ≤ consecutive_count r.rx_dl r.len
one_further r part e = let more = length-append r.parts (part ∷ []) in grind (arith, nat_tests)

module _ (t sequence_number : ℕ) (part : List ℕ) where
  abbrev then_is : Option Reception → Option Reception
  then_is o = option_and_then (with_part t sequence_number part) o

  part_case : (c : Option Start) (r : Reception) → is_some c ≡ is_unfinished (Some r) → (b : Bool) → is_next r sequence_number part ≡ b
      → (o : Option Reception) → o ≡ (if b then Some (record { len = r.len; rx_dl = r.rx_dl; head = r.head; parts = r.parts ++ part ∷ []; last = t }) else None)
      → Gives c (came (completed o) (is_unfinished (Some r) && not (is_unfinished o))) (completed o) (is_unfinished o)
  part_case c r e false other o is =
      subst (λ (o : Option Reception). Gives c (came (completed o) (is_unfinished (Some r) && not (is_unfinished o))) (completed o) (is_unfinished o)) (sym is)
      (lost_by c (is_unfinished (Some r)) false e refl)
  part_case c r e true next o is =
      let more : Reception = record { len = r.len; rx_dl = r.rx_dl; head = r.head; parts = r.parts ++ part ∷ []; last = t } in
      let below : is_unfinished (Some r) ≡ true = next_below r sequence_number part next in
      subst (λ (o : Option Reception). Gives c (came (completed o) (is_unfinished (Some r) && not (is_unfinished o))) (completed o) (is_unfinished o)) (sym is)
      (whole_case c more (is_unfinished (Some r)) (e ∙ below) below (one_further r part below) (is_whole more) refl)

  parts_of : (c : Option Start) (o : Option Reception) → is_some c ≡ is_unfinished o
      → Gives c (came (completed (then_is o)) (is_unfinished o && not (is_unfinished (then_is o)))) (completed (then_is o)) (is_unfinished (then_is o))
  parts_of c None e = (refl, e)
  parts_of c (Some r) e = part_case c r e (is_next r sequence_number part) refl (then_is (Some r)) refl

-- ---- a frame

module _ (s : LinkSetup) (at : CaptureLine) (E : List Event) (c : Option Start) (own : is_some c ≡ receives s E) where
  abbrev Steps : Event → List Happening → Type 0
  Steps e hs = Gives c hs (gives s E e) (receives s (E ++ e ∷ []))

  module _ (bytes : List ℕ) where
    gives_is : (k : Kind) → kind bytes s.max_request ≡ k → gives s E (Physical bytes) ≡ physical_step s (Physical bytes ∷ history E) k
    unfolding gives
    gives_is k is = ap (physical_step s (Physical bytes ∷ history E)) is

    open_is : (k : Kind) → kind bytes s.max_request ≡ k → open_at s (Physical bytes ∷ history E) ≡ with_frame (now (history E)) k (open_at s (history E))
    unfolding open_at
    open_is k is = ap (λ k. with_frame (now (history E)) k (open_at s (history E))) is

    receives_is : (k : Kind) → kind bytes s.max_request ≡ k → receives s (E ++ Physical bytes ∷ []) ≡ is_unfinished
        (with_frame (now (history E)) k (open_at s (history E)))
    receives_is k is = ap (λ h. is_unfinished (open_at s h)) (history-more E (Physical bytes) tt) ∙ ap is_unfinished (open_is k is)

    by_values : (hs : List Happening) (k : Kind) → kind bytes s.max_request ≡ k
        → Gives c hs (physical_step s (Physical bytes ∷ history E) k) (is_unfinished (with_frame (now (history E)) k (open_at s (history E)))) → Steps
        (Physical bytes) hs
    by_values hs k is g = (g.0 ∙ ap (λ o. flat_map message_given (option_to_list o)) (sym (gives_is k is)), g.1 ∙ sym (receives_is k is))

    frame_gives : (k : Kind) → kind bytes s.max_request ≡ k → Steps (Physical bytes) (frame_happens s at E bytes k)
    frame_gives (Single payload) is = by_values (frame_happens s at E bytes (Single payload)) (Single payload) is (lost_single c (receives s E) at payload)
    frame_gives (First len rx_dl head) is =
        let long : nat_lt 0 (consecutive_count rx_dl len) ≡ true = some_parts rx_dl len (subst IsFirst is (first_of_kind bytes s.max_request)).long in
        let g = lost_begins c (receives s E) at head in
        by_values (frame_happens s at E bytes (First len rx_dl head)) (First len rx_dl head) is (g.0, g.1 ∙ sym long)
    frame_gives Overflow is = by_values (lost_if (receives s E)) Overflow is (lost_heard c (receives s E), lost_coming c (receives s E) own)
    frame_gives (FlowControl flow_status block_size st_min) is = by_values [] (FlowControl flow_status block_size st_min) is (refl, own)
    frame_gives Ignored is = by_values [] Ignored is (refl, own)
    frame_gives (Consecutive sequence_number part) is =
        let o = open_at s (history E) in
        let g = parts_of (now (history E)) sequence_number part c o own in
        let given = gives_is (Consecutive sequence_number part) is ∙ ap completed (open_is (Consecutive sequence_number part) is) in
        let received = receives_is (Consecutive sequence_number part) is in
        let same = ap₂ (λ (o : Option Step) (b : Bool). came o (receives s E && not b)) given received in (
          ap (heard c) same ∙ (g.0 ∙ ap (λ o. flat_map message_given (option_to_list o)) (sym given)),
          ap (λ hs. is_some (coming_after c hs)) same ∙ (g.1 ∙ sym received),
        )

  -- ---- time

  module _ (n : ℕ) where
    ticks_before : history (E ++ Ticks n ∷ []) ≡ replicate n (Ticks 1) ++ history E
    ticks_before = after-append [] E (Ticks n ∷ [])

  kept_open : (t : ℕ) (o : Option Reception) → is_unfinished (option_and_then (in_time s t) o) ≡ true → is_unfinished o ≡ true
  kept_open t None e = e
  kept_open t (Some r) e = in_time_case (nat_lt t (r.last + s.n_cr)) e
    where
      in_time_case : (b : Bool) → is_unfinished (if b then Some r else None) ≡ true → is_unfinished (Some r) ≡ true
      in_time_case true e = e
      in_time_case false e = cc

  was_open : (n : ℕ) (past : List Event) → is_unfinished (open_at s (replicate n (Ticks 1) ++ past)) ≡ true → is_unfinished (open_at s past) ≡ true
  unfolding open_at
  was_open zero past e = e
  was_open (suc n) past e = was_open n past (kept_open (suc (now (replicate n (Ticks 1) ++ past))) (open_at s (replicate n (Ticks 1) ++ past)) e)

  time_case : (u v : Bool) → is_some c ≡ u → (v ≡ true → u ≡ true) → (heard c (lost_if (u && not v)) ≡ []) ×
      (is_some (coming_after c (lost_if (u && not v))) ≡ v)
  time_case true true e f = (refl, e)
  time_case true false e f = (lost_heard c true, refl)
  time_case false true e f = cc (f refl)
  time_case false false e f = (refl, e)

  time_gives : (n : ℕ) → Steps (Ticks n) (lost_if (breaks s E (Ticks n)))
  unfolding gives
  time_gives n =
      time_case (receives s E) (receives s (E ++ Ticks n ∷ [])) own
      (λ e. was_open n (history E) (ap (λ h. is_unfinished (open_at s h)) (sym (ticks_before n)) ∙ e))

  abbrev IsUnits : Event → Type 0
  IsUnits (Physical bytes) = Unit {0}
  IsUnits (Functional bytes) = ⊥
  IsUnits (Ticks n) = Unit {0}

  unit_gives : (e : Event) → IsUnits e → Steps e (unit_happens s at E e)
  unit_gives (Physical bytes) u = frame_gives bytes (kind bytes s.max_request) refl
  unit_gives (Functional bytes) u = absurd u
  unit_gives (Ticks n) u = time_gives n

-- ---- all events of the unit's side

abbrev pub IsOfUnit : Event → Type 0
IsOfUnit (Physical bytes) = Unit {0}
IsOfUnit (Functional bytes) = ⊥
IsOfUnit (Ticks n) = Unit {0}

of_unit : (s : LinkSetup) (at : CaptureLine) (E : List Event) (c : Option Start) → is_some c ≡ receives s E → (e : Event) → IsOfUnit e
    → Gives c (unit_happens s at E e) (gives s E e) (receives s (E ++ e ∷ []))
of_unit s at E c own (Physical bytes) u = unit_gives s at E c own (Physical bytes) tt
of_unit s at E c own (Functional bytes) u = absurd u
of_unit s at E c own (Ticks n) u = unit_gives s at E c own (Ticks n) tt

flat_append : {X Y : Type 0} (f : X → List Y) (xs ys : List X) → flat_map f (xs ++ ys) ≡ flat_map f xs ++ flat_map f ys
flat_append f [] ys = refl
flat_append f (x ∷ xs) ys = ap (λ w. f x ++ w) (flat_append f xs ys) ∙ sym (append_assoc (f x) (flat_map f xs) (flat_map f ys))

-- what events give, and whether a message is coming in behind them
abbrev GivesAll : LinkSetup → Option Start → List Happening → List Event → List Event → Type 0
GivesAll s c hs E es = (heard c hs ≡ flat_map message_given (steps_after s E es)) × (is_some (coming_after c hs) ≡ receives s (E ++ es))

all_give : (s : LinkSetup) (at : CaptureLine) (E es : List Event) (c : Option Start) → is_some c ≡ receives s E → Each IsOfUnit es
    → GivesAll s c (all_happen s at E es) E es
all_give s at E [] c own u = (refl, own ∙ ap (receives s) (sym (append-nil E)))
all_give s at E (e ∷ es) c own u =
    let one = of_unit s at E c own e u.0 in
    let hs = unit_happens s at E e in
    let rest = all_give s at (E ++ e ∷ []) es (coming_after c hs) one.1 u.1 in (
      heard_append c hs (all_happen s at (E ++ e ∷ []) es) ∙ (ap₂ (λ (x y : List (List ℕ)). x ++ y) one.0 rest.0
          ∙ sym (flat_append message_given (option_to_list (gives s E e)) (steps_after s (E ++ e ∷ []) es))),
      ap is_some (coming_append c hs (all_happen s at (E ++ e ∷ []) es)) ∙ (rest.1 ∙ ap (receives s) (append_assoc E (e ∷ []) es)),
    )

steps_append : (s : LinkSetup) (E xs ys : List Event) → steps_after s E (xs ++ ys) ≡ steps_after s E xs ++ steps_after s (E ++ xs) ys
steps_append s E [] ys = ap (λ w. steps_after s w ys) (sym (append-nil E))
steps_append s E (x ∷ xs) ys =
    ap (λ w. option_to_list (gives s E x) ++ w) (steps_append s (E ++ x ∷ []) xs ys ∙ ap (λ w. steps_after s (E ++ x ∷ []) xs ++ steps_after s w ys)
    (append_assoc E (x ∷ []) xs))
    ∙ sym (append_assoc (option_to_list (gives s E x)) (steps_after s (E ++ x ∷ []) xs) (steps_after s (E ++ x ∷ xs) ys))

-- ---- the events of a line

each_append : (xs ys : List Event) → Each IsOfUnit xs → Each IsOfUnit ys → Each IsOfUnit (xs ++ ys)
each_append [] ys p q = q
each_append (x ∷ xs) ys p q = (p.0, each_append xs ys p.1 q)

each_ticks : (n m : ℕ) → Each IsOfUnit (replicate n (Ticks m))
each_ticks zero m = tt
each_ticks (suc n) m = (tt, each_ticks n m)

each_waited : (ms : ℕ) → Each IsOfUnit (waited ms)
each_waited ms = each_append (replicate (ms / 60000) (Ticks 60000)) _ (each_ticks (ms / 60000) 60000) (rest_case (ms % 60000 == 0))
  where
    rest_case : (b : Bool) → Each IsOfUnit (if b then [] else Ticks (ms % 60000) ∷ [])
    rest_case true = tt
    rest_case false = (tt, tt)

pub each_time : (setup : RawSetup) (past : List (List ℕ)) (said : Result BusLine LineFault) → Each IsOfUnit (time_of_line setup past said)
each_time setup past (Ok said.Empty) = tt
each_time setup past (Ok (said.Ticks n)) = (tt, tt)
each_time setup past (Ok (said.Stamped moment frame)) = each_waited (silence Stamps (reference setup past) (Some moment))
each_time setup past (Err fault) = tt

each_frame : (id : ℕ) (frame : Option Frame) → Each IsOfUnit (frame_with id frame)
each_frame id None = tt
each_frame id (Some frame) = frame_case (frame.id == id)
  where
    frame_case : (b : Bool) → Each IsOfUnit (if b then Physical frame.bytes ∷ [] else [])
    frame_case true = (tt, tt)
    frame_case false = tt

pub each_unit : (setup : RawSetup) (t : ℕ) (said : Result BusLine LineFault) → Each IsOfUnit (unit_frame setup t said)
each_unit setup t (Ok said) = each_frame (ids_of setup t).response (frame_said said)
each_unit setup t (Err fault) = tt

-- ---- all lines

module _ (expects : State → Entry → Expected) (setup : RawSetup) (t : ℕ) where
  abbrev side : LinkSetup
  side = unit_side setup t

  asked_heard : (at : CaptureLine) (c : Option Start) (x : Step) (e : Expected) → (heard c (asks at x e) ≡ []) × (coming_after c (asks at x e) ≡ c)
  asked_heard at None (step.Request r) e = (refl, refl)
  asked_heard at (Some s) (step.Request r) e = (refl, refl)
  asked_heard at c (step.Ticks n) e = (refl, refl)

  entries_heard : (at : CaptureLine) (c : Option Start) (es : List (State × Entry))
      → (heard c (flat_map (entry_happens expects setup t at) es) ≡ []) × (coming_after c (flat_map (entry_happens expects setup t at) es) ≡ c)
  entries_heard at c [] = (refl, refl)
  entries_heard at c (e ∷ es) =
      let hs = asks at e.1.step (expects e.0 e.1) in
      let more = flat_map (entry_happens expects setup t at) es in
      let one = asked_heard at c e.1.step (expects e.0 e.1) in
      let rest = entries_heard at c es in (
        heard_append c hs more ∙ ap₂ (λ (x y : List (List ℕ)). x ++ y) one.0 (ap (λ d. heard d more) one.1 ∙ rest.0),
        coming_append c hs more ∙ (ap (λ d. coming_after d more) one.1 ∙ rest.1),
      )

  abbrev line_gives : List (List ℕ) → List ℕ → List Event
  line_gives past line = time_of_line setup past (line_said setup line) ++ unit_frame setup t (line_said setup line)

  pub unit_push : (past lines : List (List ℕ)) (line : List ℕ) → unit_after setup t past (lines ++ line ∷ [])
      ≡ unit_after setup t past lines ++ line_gives (past ++ lines) line
  unit_push past [] line = append-nil (line_gives past line) ∙ ap (λ w. line_gives w line) (sym (append-nil past))
  unit_push past (first ∷ lines) line =
      ap (λ w. line_gives past first ++ w) (unit_push (past ++ first ∷ []) lines line
      ∙ ap (λ w. unit_after setup t (past ++ first ∷ []) lines ++ line_gives w line) (append_assoc past (first ∷ []) lines))
      ∙ sym (append_assoc (line_gives past first) (unit_after setup t (past ++ first ∷ []) lines) (line_gives (past ++ first ∷ lines) line))

  line_heard : (past : List (List ℕ)) (line : List ℕ) (c : Option Start) → is_some c ≡ receives side (unit_events setup t past)
      → GivesAll side c (line_happens expects setup t past line) (unit_events setup t past) (line_gives past line)
  line_heard past line c own =
      let at = capture_line_of setup past line in
      let E = unit_events setup t past in
      let time = time_of_line setup past (line_said setup line) in
      let frame = unit_frame setup t (line_said setup line) in
      let first = all_happen side at E time in
      let second = flat_map (entry_happens expects setup t at) (filter (is_of t) (entries_by setup past line)) in
      let third = all_happen side at (E ++ time) frame in
      let a = all_give side at E time c own (each_time setup past (line_said setup line)) in
      let b = entries_heard at (coming_after c first) (filter (is_of t) (entries_by setup past line)) in
      let between : coming_after c (first ++ second) ≡ coming_after c first = coming_append c first second ∙ b.1 in
      let d = all_give side at (E ++ time) frame (coming_after c (first ++ second)) (ap is_some between ∙ a.1) (each_unit setup t (line_said setup line)) in
      let front : heard c (first ++ second) ≡ flat_map message_given (steps_after side E time) =
      heard_append c first second ∙ (ap₂ (λ (x y : List (List ℕ)). x ++ y) a.0 b.0 ∙ append-nil (flat_map message_given (steps_after side E time))) in (
        heard_append c (first ++ second) third ∙ (ap₂ (λ (x y : List (List ℕ)). x ++ y) front d.0
            ∙ (sym (flat_append message_given (steps_after side E time) (steps_after side (E ++ time) frame)) ∙ ap (flat_map message_given)
            (sym (steps_append side E time frame)))),
        ap is_some (coming_append c (first ++ second) third) ∙ (d.1 ∙ ap (receives side) (append_assoc E time frame)),
      )

  lines_heard : (past lines : List (List ℕ)) (c : Option Start) → is_some c ≡ receives side (unit_events setup t past)
      → heard c (happen_after expects setup t past lines) ≡ flat_map message_given (steps_after side (unit_events setup t past) (unit_after setup t past lines))
  lines_heard past [] c own = refl
  lines_heard past (line ∷ lines) c own =
      let E = unit_events setup t past in
      let here = line_happens expects setup t past line in
      let rest = happen_after expects setup t (past ++ line ∷ []) lines in
      let more = unit_after setup t (past ++ line ∷ []) lines in
      let one = line_heard past line c own in
      let push : unit_events setup t (past ++ line ∷ []) ≡ E ++ line_gives past line = unit_push [] past line in
      let others = lines_heard (past ++ line ∷ []) lines (coming_after c here) (one.1 ∙ ap (receives side) (sym push)) in
      heard_append c here rest ∙ (ap₂ (λ (x y : List (List ℕ)). x ++ y) one.0 (others ∙ ap (λ w. flat_map message_given (steps_after side w more)) push)
      ∙ (sym (flat_append message_given (steps_after side E (line_gives past line)) (steps_after side (E ++ line_gives past line) more))
      ∙ ap (flat_map message_given) (sym (steps_append side E (line_gives past line) more))))

  nothing_open : (s : LinkSetup) → receives s [] ≡ false
  unfolding open_at
  nothing_open s = refl

  pub heard_are : (lines : List (List ℕ)) → heard None (happenings expects setup t lines) ≡ flat_map message_given (steps side (unit_events setup t lines))
  heard_are lines = lines_heard [] lines None (sym (nothing_open side))
