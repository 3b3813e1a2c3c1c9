-- The first frame of a message has its first two bytes.
use Rattle.std.proofs.Common.{◌≡◌, ℕ, zero, suc, ◌+◌, Bool, true, false, Option, Some, None, List, [], ◌∷◌, ◌++◌, take, replicate, refl, ap, subst, sym, ◌∙◌, append_assoc, arith}
use Rattle.std.proofs.lemmas.List.{append-nil}
use Rattle.std.proofs.lemmas.List.Elements.{All-cons, All-nil}
use Rattle.std.specs.List.{All, filter, flat_map}
use Rattle.std.specs.Prelude.{if◌then◌else◌, nat_lt, option_and_then, slice_get, slice_index}
use Rattle.diag_can.specs.Event.{Event, Physical, Functional, Ticks}
use Rattle.diag_pdu.specs.Kind.{kind, Kind, Single, First, Overflow, Consecutive, FlowControl, Ignored}
use Rattle.diag_pdu.specs.declared.length.DataLength.{DataLength}
use Rattle.diag_pdu.specs.declared.setup.LinkSetup.{LinkSetup}
use Rattle.diag_pdu.specs.declared.step.Step.{Step}
use Rattle.diag_pdu.specs.declared.step.Step.TheVariants as step
use Rattle.diag_setup.specs.declared.raw.RawSetup.{RawSetup}
use Rattle.diag_tp.specs.Gives.{completed, gives, physical_step}
use Rattle.diag_tp.specs.Moments.{history, now}
use Rattle.diag_tp.specs.Reception.{Reception, in_time, is_next, is_whole, message_of, open_at, with_frame, with_part}
use Rattle.diag_tp.proofs.Moments.{after-append, history-more}
use Rattle.diag_ecu.specs.State.{State}
use Rattle.diag_desk.specs.declared.entry.Entry.{Entry}
use Rattle.diag_bus.specs.Events.{line_said}
use Rattle.diag_exchange.specs.Asking.{coming_after}
use Rattle.diag_exchange.specs.declared.happening.Expected.{Expected}
use Rattle.diag_exchange.specs.declared.happening.Happening.{Happening}
use Rattle.diag_exchange.specs.declared.happening.Happening.TheVariants.{Came}
use Rattle.diag_exchange.specs.declared.happening.Heard.{Heard}
use Rattle.diag_exchange.specs.declared.happening.CaptureLine.{CaptureLine}
use Rattle.diag_exchange.specs.declared.happening.Start.{Start}
use Rattle.diag_exchange.proofs.Lists.{Each}
use Rattle.diag_compare.specs.Hearing.{asks, capture_line_of, entries_by, entry_happens, happen_after, happenings, is_of, line_happens, time_of_line, unit_events, unit_frame, unit_side}
use Rattle.diag_listen.specs.Listening.{all_happen, began, breaks, came, frame_happens, lost_if, receives, unit_happens}
use Rattle.diag_compare.specs.Meaning.{IsHeaded, messages, messages_after}
use Rattle.diag_compare.proofs.FirstFrames.{HasHead, IsFirst, eight_most, first_of_kind}
use Rattle.diag_compare.proofs.Messages.{IsOfUnit, coming_append, each_time, each_unit, messages_append, unit_push}

-- ---- what is known of the message that is coming in

record HeadOf (start : Start) (r : Reception) : Type 0 where
  has : HasHead r.len r.rx_dl r.head
  first : start.first ≡ slice_index r.head 0
  second : start.second ≡ slice_get r.head 1

abbrev Known : Option Start → Option Reception → Type 0
Known None o = Unit {0}
Known (Some start) None = Unit {0}
Known (Some start) (Some r) = HeadOf start r

known_none : (c : Option Start) → Known c None
known_none None = tt
known_none (Some start) = tt

-- the messages that are complete by this have their heads, and what is known behind it
abbrev Heads : Option Start → List Happening → Option Reception → Type 0
Heads c hs o = Each IsHeaded (messages_after c hs) × Known (coming_after c hs) o

lost_heads : (c : Option Start) (b : Bool) (o : Option Reception) → Known c o → Heads c (lost_if b) o
lost_heads None true o k = (tt, tt)
lost_heads (Some s) true o k = (tt, tt)
lost_heads c false o k = (tt, k)

began_heads : (c : Option Start) (b : Bool) (at : CaptureLine) (len t : ℕ) (rx_dl : DataLength) (head : List ℕ) → HasHead len rx_dl head
    → Heads c (lost_if b ++ began at head ∷ []) (Some (record { len = len; rx_dl = rx_dl; head = head; parts = []; last = t }))
began_heads None true at len t rx_dl head h = (tt, record { has = h; first = refl; second = refl })
began_heads (Some s) true at len t rx_dl head h = (tt, record { has = h; first = refl; second = refl })
began_heads None false at len t rx_dl head h = (tt, record { has = h; first = refl; second = refl })
began_heads (Some s) false at len t rx_dl head h = (tt, record { has = h; first = refl; second = refl })

single_heads : (c : Option Start) (b : Bool) (at : CaptureLine) (bytes : List ℕ) → Heads c (lost_if b ++ began at bytes ∷ Came bytes ∷ []) None
single_heads None true at bytes = ((record { first = refl; second = refl }, tt), tt)
single_heads (Some s) true at bytes = ((record { first = refl; second = refl }, tt), tt)
single_heads None false at bytes = ((record { first = refl; second = refl }, tt), tt)
single_heads (Some s) false at bytes = ((record { first = refl; second = refl }, tt), tt)

-- the first two bytes of a message are those of its head
first_byte : (len : ℕ) (rx_dl : DataLength) (head more : List ℕ) → HasHead len rx_dl head → slice_index head 0 ≡ slice_index (take len (head ++ more)) 0
first_byte len rx_dl [] more h = absurd (let s = h.some in omega (arith, s))
first_byte zero rx_dl (a ∷ head) more h = absurd (let l = eight_most rx_dl zero h.long in omega (arith, l))
first_byte (suc len) rx_dl (a ∷ head) more h = refl

second_byte : (len : ℕ) (rx_dl : DataLength) (head more : List ℕ) → HasHead len rx_dl head → slice_get head 1 ≡ slice_get (take len (head ++ more)) 1
second_byte len rx_dl [] more h = absurd (let s = h.some in omega (arith, s))
second_byte len rx_dl (a ∷ []) more h = absurd (let s = h.some in omega (arith, s))
second_byte zero rx_dl (a ∷ b ∷ head) more h = absurd (let l = eight_most rx_dl zero h.long in omega (arith, l))
second_byte (suc zero) rx_dl (a ∷ b ∷ head) more h = absurd (let l = eight_most rx_dl (suc zero) h.long in omega (arith, l))
second_byte (suc (suc len)) rx_dl (a ∷ b ∷ head) more h = refl

came_heads : (c : Option Start) (r : Reception) → Known c (Some r) → (o : Option Reception) → Heads c (Came (message_of r) ∷ []) o
came_heads None r k o = (tt, tt)
came_heads (Some s) r k o = (
  (
    record {
      first = k.first ∙ first_byte r.len r.rx_dl r.head (flat_map (λ part. part) r.parts) k.has;
      second = k.second ∙ second_byte r.len r.rx_dl r.head (flat_map (λ part. part) r.parts) k.has;
    },
    tt,
  ),
  tt,
)

whole_heads : (c : Option Start) (r : Reception) (b w : Bool) → is_whole r ≡ w → Known c (Some r) → Heads c (came (completed (Some r)) b) (Some r)
whole_heads c r b true e k =
    subst (λ (o : Option Step). Heads c (came o b) (Some r))
    (sym (ap (λ (w : Bool). if w then Some (step.Request (record { functional = false; message = message_of r })) else None) e)) (came_heads c r k (Some r))
whole_heads c r b false e k =
    subst (λ (o : Option Step). Heads c (came o b) (Some r))
    (sym (ap (λ (w : Bool). if w then Some (step.Request (record { functional = false; message = message_of r })) else None) e)) (lost_heads c b (Some r) k)

known_part : (c : Option Start) (r : Reception) (part : List ℕ) (t : ℕ) → Known c (Some r)
    → Known c (Some (record { len = r.len; rx_dl = r.rx_dl; head = r.head; parts = r.parts ++ part ∷ []; last = t }))
known_part None r part t k = tt
known_part (Some s) r part t k = record { has = k.has; first = k.first; second = k.second }

part_heads : (c : Option Start) (o : Option Reception) (t sequence_number : ℕ) (part : List ℕ) (b : Bool) → Known c o
    → Heads c (came (completed (option_and_then (with_part t sequence_number part) o)) b) (option_and_then (with_part t sequence_number part) o)
part_heads c None t sequence_number part b k = lost_heads c b None (known_none c)
part_heads c (Some r) t sequence_number part b k = next_case (is_next r sequence_number part)
  where
    next_case : (n : Bool)
        → Heads c (came (completed (if n then Some (record { len = r.len; rx_dl = r.rx_dl; head = r.head; parts = r.parts ++ part ∷ []; last = t }) else None)) b)
        (if n then Some (record { len = r.len; rx_dl = r.rx_dl; head = r.head; parts = r.parts ++ part ∷ []; last = t }) else None)
    next_case true =
        let more : Reception = record { len = r.len; rx_dl = r.rx_dl; head = r.head; parts = r.parts ++ part ∷ []; last = t } in whole_heads c more b
        (is_whole more) refl (known_part c r part t k)
    next_case false = lost_heads c b None (known_none c)

-- ---- an event

module _ (s : LinkSetup) (at : CaptureLine) (E : List Event) (c : Option Start) (known : Known c (open_at s (history E))) where
  module _ (bytes : List ℕ) where
    open_is : (k : Kind) → kind bytes s.max_request ≡ k → open_at s (history (E ++ Physical bytes ∷ [])) ≡ with_frame (now (history E)) k (open_at s (history E))
    unfolding open_at
    open_is k is = ap (open_at s) (history-more E (Physical bytes) tt) ∙ ap (λ k. with_frame (now (history E)) k (open_at s (history E))) is

    abbrev Then : List Happening → Type 0
    Then hs = Heads c hs (open_at s (history (E ++ Physical bytes ∷ [])))

    by_kind : (hs : List Happening) (k : Kind) → kind bytes s.max_request ≡ k → Heads c hs (with_frame (now (history E)) k (open_at s (history E))) → Then hs
    by_kind hs k is h = subst (Heads c hs) (sym (open_is k is)) h

    gives_is : (sequence_number : ℕ) (part : List ℕ) → kind bytes s.max_request ≡ Consecutive sequence_number part
        → gives s E (Physical bytes) ≡ completed (option_and_then (with_part (now (history E)) sequence_number part) (open_at s (history E)))
    unfolding gives open_at
    gives_is sequence_number part is =
        ap (physical_step s (Physical bytes ∷ history E)) is ∙ ap (λ k. completed (with_frame (now (history E)) k (open_at s (history E)))) is

    frame_heads : (k : Kind) → kind bytes s.max_request ≡ k → Then (frame_happens s at E bytes k)
    frame_heads (Single payload) is = by_kind _ (Single payload) is (single_heads c (receives s E) at payload)
    frame_heads (First len rx_dl head) is =
        by_kind _ (First len rx_dl head) is (began_heads c (receives s E) at len (now (history E)) rx_dl head (subst IsFirst is (first_of_kind bytes s.max_request)))
    frame_heads Overflow is = by_kind _ Overflow is (lost_heads c (receives s E) None (known_none c))
    frame_heads (FlowControl flow_status block_size st_min) is = by_kind [] (FlowControl flow_status block_size st_min) is (tt, known)
    frame_heads Ignored is = by_kind [] Ignored is (tt, known)
    frame_heads (Consecutive sequence_number part) is =
        let h = part_heads c (open_at s (history E)) (now (history E)) sequence_number part (breaks s E (Physical bytes)) known in
        by_kind _ (Consecutive sequence_number part) is
        (subst (λ (o : Option Step). Heads c (came o (breaks s E (Physical bytes))) (option_and_then (with_part (now (history E)) sequence_number part)
        (open_at s (history E)))) (sym (gives_is sequence_number part is)) h)

  known_time : (t : ℕ) (o : Option Reception) → Known c o → Known c (option_and_then (in_time s t) o)
  known_time t None k = known_none c
  known_time t (Some r) k = time_case (nat_lt t (r.last + s.n_cr))
    where
      time_case : (b : Bool) → Known c (if b then Some r else None)
      time_case true = k
      time_case false = known_none c

  known_ticks : (n : ℕ) (past : List Event) → Known c (open_at s past) → Known c (open_at s (replicate n (Ticks 1) ++ past))
  unfolding open_at
  known_ticks zero past k = k
  known_ticks (suc n) past k = known_time (suc (now (replicate n (Ticks 1) ++ past))) (open_at s (replicate n (Ticks 1) ++ past)) (known_ticks n past k)

  unit_heads : (e : Event) → IsOfUnit e → Heads c (unit_happens s at E e) (open_at s (history (E ++ e ∷ [])))
  unit_heads (Physical bytes) u = frame_heads bytes (kind bytes s.max_request) refl
  unit_heads (Functional bytes) u = absurd u
  unit_heads (Ticks n) u =
      subst (λ (h : List Event). Heads c (lost_if (breaks s E (Ticks n))) (open_at s h)) (sym (after-append [] E (Ticks n ∷ [])))
      (lost_heads c (breaks s E (Ticks n)) (open_at s (replicate n (Ticks 1) ++ history E)) (known_ticks n (history E) known))

-- ---- one behind the other

each_both : (xs ys : List Heard) → Each IsHeaded xs → Each IsHeaded ys → Each IsHeaded (xs ++ ys)
each_both [] ys p q = q
each_both (x ∷ xs) ys p q = (p.0, each_both xs ys p.1 q)

heads_then : (c : Option Start) (xs ys : List Happening) (o : Option Reception) → Each IsHeaded (messages_after c xs) → Heads (coming_after c xs) ys o
    → Heads c (xs ++ ys) o
heads_then c xs ys o first rest = (
  subst (Each IsHeaded) (sym (messages_append c xs ys)) (each_both (messages_after c xs) (messages_after (coming_after c xs) ys) first rest.0),
  subst (λ (d : Option Start). Known d o) (sym (coming_append c xs ys)) rest.1,
)

all_heads : (s : LinkSetup) (at : CaptureLine) (E es : List Event) (c : Option Start) → Known c (open_at s (history E)) → Each IsOfUnit es
    → Heads c (all_happen s at E es) (open_at s (history (E ++ es)))
all_heads s at E [] c k u = (tt, subst (λ (w : List Event). Known c (open_at s (history w))) (sym (append-nil E)) k)
all_heads s at E (e ∷ es) c k u =
    let one = unit_heads s at E c k e u.0 in
    let rest = all_heads s at (E ++ e ∷ []) es (coming_after c (unit_happens s at E e)) one.1 u.1 in
    subst (λ (w : List Event). Heads c (all_happen s at E (e ∷ es)) (open_at s (history w))) (append_assoc E (e ∷ []) es)
    (heads_then c (unit_happens s at E e) (all_happen s at (E ++ e ∷ []) es) (open_at s (history ((E ++ e ∷ []) ++ es))) one.0 rest)

-- ---- all lines

module _ (expects : State → Entry → Expected) (setup : RawSetup) (t : ℕ) where
  abbrev side : LinkSetup
  side = unit_side setup t

  asked_heads : (at : CaptureLine) (c : Option Start) (x : Step) (e : Expected) (o : Option Reception) → Known c o → Heads c (asks at x e) o
  asked_heads at None (step.Request r) e o k = (tt, k)
  asked_heads at (Some s) (step.Request r) e o k = (tt, k)
  asked_heads at c (step.Ticks n) e o k = (tt, k)

  entries_heads : (at : CaptureLine) (c : Option Start) (es : List (State × Entry)) (o : Option Reception) → Known c o
      → Heads c (flat_map (entry_happens expects setup t at) es) o
  entries_heads at c [] o k = (tt, k)
  entries_heads at c (e ∷ es) o k =
      let hs = asks at e.1.step (expects e.0 e.1) in
      let one = asked_heads at c e.1.step (expects e.0 e.1) o k in
      heads_then c hs (flat_map (entry_happens expects setup t at) es) o one.0 (entries_heads at (coming_after c hs) es o one.1)

  line_heads : (past : List (List ℕ)) (line : List ℕ) (c : Option Start) → Known c (open_at side (history (unit_events setup t past)))
      → Heads c (line_happens expects setup t past line) (open_at side (history (unit_events setup t (past ++ line ∷ []))))
  line_heads past line c k =
      let at = capture_line_of setup past line in
      let E = unit_events setup t past in
      let time = time_of_line setup past (line_said setup line) in
      let frame = unit_frame setup t (line_said setup line) in
      let first = all_happen side at E time in
      let second = flat_map (entry_happens expects setup t at) (filter (is_of t) (entries_by setup past line)) in
      let third = all_happen side at (E ++ time) frame in
      let a = all_heads side at E time c k (each_time setup past (line_said setup line)) in
      let b = entries_heads at (coming_after c first) (filter (is_of t) (entries_by setup past line)) (open_at side (history (E ++ time))) a.1 in
      let ab = heads_then c first second (open_at side (history (E ++ time))) a.0 b in
      let d = all_heads side at (E ++ time) frame (coming_after c (first ++ second)) ab.1 (each_unit setup t (line_said setup line)) in
      let whole = heads_then c (first ++ second) third (open_at side (history ((E ++ time) ++ frame))) ab.0 d in
      subst (λ (w : List Event). Heads c (line_happens expects setup t past line) (open_at side (history w)))
      (append_assoc E time frame ∙ sym (unit_push expects setup t [] past line)) whole

  lines_heads : (past lines : List (List ℕ)) (c : Option Start) → Known c (open_at side (history (unit_events setup t past)))
      → Each IsHeaded (messages_after c (happen_after expects setup t past lines))
  lines_heads past [] c k = tt
  lines_heads past (line ∷ lines) c k =
      let here = line_happens expects setup t past line in
      let rest = happen_after expects setup t (past ++ line ∷ []) lines in
      let one = line_heads past line c k in
      subst (Each IsHeaded) (sym (messages_append c here rest))
      (each_both (messages_after c here) (messages_after (coming_after c here) rest) one.0 (lines_heads (past ++ line ∷ []) lines (coming_after c here) one.1))

  all_of : (ms : List Heard) → Each IsHeaded ms → All IsHeaded ms
  all_of [] e = All-nil IsHeaded
  all_of (m ∷ ms) e = All-cons IsHeaded m ms e.0 (all_of ms e.1)

  pub heads_are : (lines : List (List ℕ)) → All IsHeaded (messages (happenings expects setup t lines))
  heads_are lines = all_of (messages (happenings expects setup t lines)) (lines_heads [] lines None tt)
