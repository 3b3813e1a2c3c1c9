-- What is kept of the message that is coming in tells what an event of the unit's side is.
use Rattle.std.proofs.Common.{◌≡◌, ◌≤◌, ◌<◌, ◌⊎◌, inl, inr, ℕ, zero, suc, ◌/◌, ◌%◌, ◌==◌, Bool, true, false, Option, Some, None, List, [], ◌∷◌, ◌++◌, replicate, refl, ap, ap₂, subst, sym, ◌∙◌, append_assoc, arith}
use Rattle.std.proofs.lemmas.Bool.Decides.{nat_tests}
use Rattle.std.proofs.lemmas.List.{append-nil}
use Rattle.std.specs.Prelude.{if◌then◌else◌, is_some, min, nat_lt, not, option_and_then, ◌&&◌, Result, Ok, Err, OnOk}
use Rattle.diag_can.specs.Log.{waited}
use Rattle.diag_can.specs.Event.{Event, Physical, Functional, Ticks}
use Rattle.diag_pdu.specs.Kind.{IsRead, kind, Kind, Single, First, Overflow, Consecutive, FlowControl, Ignored}
use Rattle.diag_pdu.specs.declared.setup.LinkSetup.{LinkSetup}
use Rattle.diag_sides.specs.Receiver.{Receiving, ask_of, completed_by, one_tick_later, open_after, ticks_later}
use Rattle.diag_tp.specs.Link.{asked_of, unfinished}
use Rattle.diag_tp.specs.Moments.{history, last_time, now}
use Rattle.diag_tp.specs.Reception.{Reception, open_at}
use Rattle.diag_tp.proofs.Moments.{after-append, history-more}
use Rattle.diag_tp.proofs.Partials.{gives-more, unfinished-more}
use Rattle.diag_exchange.specs.Exchanges.{over_after, over_with}
use Rattle.diag_exchange.specs.Taking.{Stands, Took, TookSilently}
use Rattle.diag_exchange.specs.declared.exchanges.Exchanges.{Exchanges}
use Rattle.diag_exchange.specs.declared.happening.Happening.{Happening}
use Rattle.diag_exchange.specs.declared.happening.Happening.TheVariants.{Came}
use Rattle.diag_exchange.specs.Over.{Over}
use Rattle.diag_exchange.specs.declared.happening.CaptureLine.{CaptureLine}
use Rattle.diag_listen.specs.Listening.{HasMoved, Hears, Listens, Moves, TookEach, after_ticks, all_happen, began, breaks, came, came_by, frame_happens, is_unfinished, kind_happens, lost_if, partial_of, receives, ticks_happen, unit_happens}
use Rattle.diag_listen.specs.declared.listener.Listener.{Listener}

-- ---- what is kept

is_kept : (t : ℕ) (o : Option Reception) → is_some (unfinished t o) ≡ is_unfinished o
is_kept t None = refl
is_kept t (Some r) = grind (arith, nat_tests)

kept : (s : LinkSetup) (E : List Event) → receives s E ≡ is_some (partial_of s E)
kept s E = sym (is_kept (last_time E) (open_at s (history E)))

-- with a frame more
pub frame_more : (s : LinkSetup) (E : List Event) (bytes : List ℕ) → IsRead s.max_request (kind bytes s.max_request)
    → partial_of s (E ++ Physical bytes ∷ []) ≡ open_after (partial_of s E) (kind bytes s.max_request)
frame_more s E bytes read =
    let h = history-more E (Physical bytes) tt in
    ap (λ (past : List Event). unfinished (now past) (open_at s past)) h ∙ unfinished-more s (history E) (Physical bytes) read

-- with so many ticks more
ticked : (s : LinkSetup) (past : List Event) (n : ℕ)
    → unfinished (now (replicate (suc n) (Ticks 1) ++ past)) (open_at s (replicate (suc n) (Ticks 1) ++ past))
    ≡ after_ticks s (suc n) (unfinished (now past) (open_at s past))
ticked s past zero = unfinished-more s past (Ticks 1) tt
ticked s past (suc n) =
    unfinished-more s (replicate (suc n) (Ticks 1) ++ past) (Ticks 1) tt
    ∙ (ap (option_and_then (one_tick_later s.n_cr)) (ticked s past n) ∙ twice s.n_cr n (unfinished (now past) (open_at s past)))
  where
    twice : (n_cr n : ℕ) (o : Option Receiving) → option_and_then (one_tick_later n_cr) (option_and_then (ticks_later n_cr (suc n)) o)
        ≡ option_and_then (ticks_later n_cr (suc (suc n))) o
    twice n_cr n o = grind (arith, nat_tests)

pub ticks_more : (s : LinkSetup) (E : List Event) (n : ℕ) → partial_of s (E ++ Ticks (suc n) ∷ []) ≡ after_ticks s (suc n) (partial_of s E)
ticks_more s E n =
    ap (λ (past : List Event). unfinished (now past) (open_at s past)) (after-append [] E (Ticks (suc n) ∷ [])) ∙ ticked s (history E) n

-- ---- what an event is

broken : (s : LinkSetup) (E : List Event) (e : Event) (o : Option Receiving) → partial_of s (E ++ e ∷ []) ≡ o
    → breaks s E e ≡ (is_some (partial_of s E) && not (is_some o))
broken s E e o same = ap₂ (λ (a b : Bool). a && not b) (kept s E) (kept s (E ++ e ∷ []) ∙ ap is_some same)

came_so : (o : Option (List ℕ)) (b : Bool) → came (asked_of (ask_of false o)) b ≡ came_by o b
came_so None b = refl
came_so (Some message) b = refl

pub kind_is : (s : LinkSetup) (at : CaptureLine) (E : List Event) (bytes : List ℕ) → IsRead s.max_request (kind bytes s.max_request)
    → unit_happens s at E (Physical bytes) ≡ kind_happens (partial_of s E) at (kind bytes s.max_request)
kind_is s at E bytes read = of_kind (kind bytes s.max_request) refl
  where
    of_kind : (k : Kind) → kind bytes s.max_request ≡ k → frame_happens s at E bytes k ≡ kind_happens (partial_of s E) at k
    of_kind (Single payload) e = ap (λ b. lost_if b ++ began at payload ∷ Came payload ∷ []) (kept s E)
    of_kind (First len rx_dl head) e = ap (λ b. lost_if b ++ began at head ∷ []) (kept s E)
    of_kind Overflow e = ap lost_if (kept s E)
    of_kind (Consecutive sequence_number part) e =
        let k = Consecutive sequence_number part in
        let step = gives-more s E (Physical bytes) ∙ ap (λ (k : Kind). asked_of (ask_of false (completed_by (partial_of s E) k))) e in
        let later = frame_more s E bytes read ∙ ap (open_after (partial_of s E)) e in
        ap₂ came step (broken s E (Physical bytes) (open_after (partial_of s E) k) later) ∙ came_so (completed_by (partial_of s E) k) _
    of_kind (FlowControl flow_status block_size st_min) e = refl
    of_kind Ignored e = refl

pub ticks_are : (s : LinkSetup) (at : CaptureLine) (E : List Event) (n : ℕ)
    → unit_happens s at E (Ticks (suc n)) ≡ ticks_happen s (suc n) (partial_of s E)
ticks_are s at E n = ap lost_if (broken s E (Ticks (suc n)) (after_ticks s (suc n) (partial_of s E)) (ticks_more s E n))

-- ---- one behind the other

pub over_append : (past xs ys : List Happening) → over_after past (xs ++ ys) ≡ over_after past xs ++ over_after (past ++ xs) ys
over_append past [] ys = ap (λ w. over_after w ys) (sym (append-nil past))
over_append past (x ∷ xs) ys =
    ap (λ w. over_with past x ++ w) (over_append (past ++ x ∷ []) xs ys
    ∙ ap (λ w. over_after (past ++ x ∷ []) xs ++ over_after w ys) (append_assoc past (x ∷ []) xs))
    ∙ sym (append_assoc (over_with past x) (over_after (past ++ x ∷ []) xs) (over_after (past ++ x ∷ xs) ys))

-- nothing
pub took_none : (old new : Exchanges) (out : List Over) → new ≡ old → TookEach old new out out []
took_none old new out same hs s =
    (subst (λ (e : Exchanges). Stands e (hs ++ [])) (sym same) (subst (λ w. Stands old w) (sym (append-nil hs)) s), sym (append-nil out))

-- one
pub took_one : (old new : Exchanges) (out out' : List Over) (h : Happening) → Took old new out out' h → TookEach old new out out' (h ∷ [])
took_one old new out out' h took hs s = let both = took hs s in (both.0, both.1 ∙ ap (λ w. out ++ w) (sym (append-nil (over_with hs h))))

pub took_silently : (old new : Exchanges) (out : List Over) (h : Happening) → TookSilently old new h → TookEach old new out out (h ∷ [])
took_silently old new out h took hs s =
    let both = took hs s in (both.0, sym (append-nil out) ∙ ap (λ w. out ++ w) (sym (append-nil (over_with hs h) ∙ both.1)))

-- these, and those behind them
pub took_both : (old mid new : Exchanges) (out out' out'' : List Over) (xs ys : List Happening) → TookEach old mid out out' xs
    → TookEach mid new out' out'' ys → TookEach old new out out'' (xs ++ ys)
took_both old mid new out out' out'' xs ys first second hs s =
    let one = first hs s in
    let two = second (hs ++ xs) one.0 in (
      subst (λ w. Stands new w) (append_assoc hs xs ys) two.0,
      two.1 ∙ (ap (λ w. w ++ over_after (hs ++ xs) ys) one.1 ∙ (append_assoc out (over_after hs xs) (over_after (hs ++ xs) ys)
          ∙ ap (λ w. out ++ w) (sym (over_append hs xs ys)))),
    )

pub has_moved : (old : Exchanges) (new : Listener) (out out' : List Over) (happened wanted : List Happening) (partial : Option Receiving)
    → TookEach old new.exchanges out out' happened → happened ≡ wanted → new.receiver.partial ≡ partial
    → is_some new.exchanges.coming ≡ is_some partial → (hs : List Happening) → Stands old hs → HasMoved new hs wanted out out' partial
has_moved old new out out' happened wanted partial took same is coming hs s =
    let both = took hs s in record {
      stands = subst (λ w. Stands new.exchanges (hs ++ w)) same both.0;
      partial = is;
      coming = coming;
      out = both.1 ∙ ap (λ w. out ++ over_after hs w) same;
    }

-- ---- the listener

-- it heard an event, where what is kept moved so
pub hears_one : (old new : Listener) (out out' : List Over) (at : CaptureLine) (e : Event) (E : List Event) (hs happened : List Happening) (partial : Option Receiving)
    → Listens old E hs → new.setup ≡ old.setup → Moves old new out out' happened partial → happened ≡ unit_happens old.setup at E e
    → partial ≡ partial_of old.setup (E ++ e ∷ [])
    → Listens new (E ++ e ∷ []) (hs ++ unit_happens old.setup at E e) × (out' ≡ out ++ over_after hs (unit_happens old.setup at E e))
hears_one old new out out' at e E hs happened partial l setup moves is kept =
    let m = moves hs l.stands l.coming in (
      record {
        stands = subst (λ w. Stands new.exchanges (hs ++ w)) is m.stands;
        partial = m.partial ∙ (kept ∙ ap (λ (s : LinkSetup). partial_of s (E ++ e ∷ [])) (sym setup));
        coming = m.coming ∙ ap is_some (sym m.partial);
      },
      m.out ∙ ap (λ w. out ++ over_after hs w) is,
    )

-- where nothing more happened
with_nil : (new : Listener) (out out' : List Over) (E : List Event) (hs xs : List Happening)
    → Listens new E (hs ++ xs) × (out' ≡ out ++ over_after hs xs) → Listens new E (hs ++ (xs ++ [])) × (out' ≡ out ++ over_after hs (xs ++ []))
with_nil new out out' E hs xs h =
    let n = sym (append-nil xs) in (subst (λ w. Listens new E (hs ++ w)) n h.0, h.1 ∙ ap (λ w. out ++ over_after hs w) n)

-- it heard a frame of this kind
pub hears_frame : (old new : Listener) (out out' : List Over) (at : CaptureLine) (bytes : List ℕ) (k : Kind) → k ≡ kind bytes old.setup.max_request
    → IsRead old.setup.max_request k → new.setup ≡ old.setup
    → Moves old new out out' (kind_happens old.receiver.partial at k) (open_after old.receiver.partial k) → Hears old new out out' at (Physical bytes ∷ [])
hears_frame old new out out' at bytes k is read setup moves E hs l =
    let s = old.setup in
    let whole : IsRead s.max_request (kind bytes s.max_request) = subst (IsRead s.max_request) is read in
    let happened = ap₂ (λ (o : Option Receiving) (k : Kind). kind_happens o at k) l.partial is ∙ sym (kind_is s at E bytes whole) in
    let kept = ap₂ open_after l.partial is ∙ sym (frame_more s E bytes whole) in
    with_nil new out out' (E ++ Physical bytes ∷ []) hs (unit_happens s at E (Physical bytes))
    (hears_one old new out out' at (Physical bytes) E hs (kind_happens old.receiver.partial at k) (open_after old.receiver.partial k) l setup moves happened kept)

-- ---- time

abbrev IsTick : Event → Type 0
IsTick (Ticks n) = (m : ℕ) × (n ≡ suc m)
IsTick (Physical bytes) = ⊥
IsTick (Functional bytes) = ⊥

abbrev AreTicks : List Event → Type 0
AreTicks [] = Unit {0}
AreTicks (e ∷ es) = IsTick e × AreTicks es

some_tick : (n : ℕ) → 1 ≤ n → IsTick (Ticks n)
some_tick zero h = absurd (omega (arith, h))
some_tick (suc m) h = (m, refl)

same_ticks : (k n : ℕ) (es : List Event) → 1 ≤ n → AreTicks es → AreTicks (replicate k (Ticks n) ++ es)
same_ticks zero n es h t = t
same_ticks (suc k) n es h t = (some_tick n h, same_ticks k n es h t)

rest_ticks : (r : ℕ) (b : Bool) → (r == 0) ≡ b → AreTicks (if b then [] else Ticks r ∷ [])
rest_ticks r true e = tt
rest_ticks zero false e = cc
rest_ticks (suc r) false e = ((r, refl), tt)

abbrev rest_of : ℕ → List Event
rest_of ms = if ms % 60000 == 0 then [] else Ticks (ms % 60000) ∷ []

-- where no message is coming in, time is nothing
silent : (s : LinkSetup) (at : CaptureLine) (E es : List Event) → AreTicks es → partial_of s E ≡ None
    → (all_happen s at E es ≡ []) × (partial_of s (E ++ es) ≡ None)
silent s at E [] t none = (refl, ap (partial_of s) (append-nil E) ∙ none)
silent s at E (Physical bytes ∷ es) t none = elim t.0 [ ]
silent s at E (Functional bytes ∷ es) t none = elim t.0 [ ]
silent s at E (Ticks n ∷ es) t none =
    let m = t.0.0 in
    let one : Event = Ticks (suc m) in
    let is : (Ticks n) ≡ one = ap (λ (k : ℕ). Ticks k) t.0.1 in
    let nothing : unit_happens s at E one ≡ [] = ticks_are s at E m ∙ ap (ticks_happen s (suc m)) none in
    let later : partial_of s (E ++ one ∷ []) ≡ None = ticks_more s E m ∙ ap (after_ticks s (suc m)) none in
    let rest = silent s at (E ++ one ∷ []) es t.1 later in
    let all : all_happen s at E (one ∷ es) ≡ [] = ap₂ (λ (x y : List Happening). x ++ y) nothing rest.0 in (
      ap (λ (e : Event). all_happen s at E (e ∷ es)) is ∙ all,
      ap (λ (e : Event). partial_of s (E ++ e ∷ es)) is ∙ (ap (partial_of s) (sym (append_assoc E (one ∷ []) es)) ∙ rest.1),
    )

-- and it goes by
goes_by : (own : Listener) (out : List Over) (at : CaptureLine) (E es : List Event) (hs : List Happening) → AreTicks es → own.receiver.partial ≡ None
    → Listens own E hs → Listens own (E ++ es) (hs ++ all_happen own.setup at E es) × (out ≡ out ++ over_after hs (all_happen own.setup at E es))
goes_by own out at E es hs t none l =
    let q = silent own.setup at E es t (sym l.partial ∙ none) in (
      record {
        stands = subst (λ w. Stands own.exchanges (hs ++ w)) (sym q.0) (subst (λ w. Stands own.exchanges w) (sym (append-nil hs)) l.stands);
        partial = none ∙ sym q.1;
        coming = l.coming;
      },
      sym (append-nil out) ∙ ap (λ w. out ++ over_after hs w) (sym q.0),
    )

waited_ticks : (ms : ℕ) → AreTicks (waited ms)
waited_ticks ms = same_ticks (ms / 60000) 60000 (rest_of ms) (omega arith) (rest_ticks (ms % 60000) (ms % 60000 == 0) refl)

pub waits_none : (own : Listener) (out : List Over) (at : CaptureLine) (ms : ℕ) → own.exchanges.coming ≡ None → Hears own own out out at (waited ms)
waits_none own out at ms none E hs l = goes_by own out at E (waited ms) hs (waited_ticks ms) (no_partial own.receiver.partial (sym l.coming ∙ ap is_some none)) l
  where
    no_partial : (o : Option Receiving) → is_some o ≡ false → o ≡ None
    no_partial None e = refl
    no_partial (Some p) e = cc

-- no time is nothing heard
pub waits_not : (own : Listener) (out : List Over) (at : CaptureLine) (ms : ℕ) → ms ≡ 0 → Hears own own out out at (waited ms)
waits_not own out at ms none E hs l =
    let nothing : waited ms ≡ [] = ap waited none in
    subst (λ (es : List Event). Listens own (E ++ es) (hs ++ all_happen own.setup at E es) × (out ≡ out ++ over_after hs (all_happen own.setup at E es)))
    (sym nothing) (goes_by_none own out E hs l)
  where
    goes_by_none : (own : Listener) (out : List Over) (E : List Event) (hs : List Happening) → Listens own E hs
        → Listens own (E ++ []) (hs ++ []) × (out ≡ out ++ [])
    goes_by_none own out E hs l =
        (subst (λ (F : List Event). Listens own F (hs ++ [])) (sym (append-nil E)) (subst (λ w. Listens own E w) (sym (append-nil hs)) l), sym (append-nil out))

-- ticks, and where they end the message any more
hears_ticks : (old new : Listener) (out out' : List Over) (at : CaptureLine) (m : ℕ) (es : List Event) → AreTicks es
    → (es ≡ []) ⊎ (after_ticks old.setup (suc m) old.receiver.partial ≡ None)
    → new.setup ≡ old.setup
    → Moves old new out out' (ticks_happen old.setup (suc m) old.receiver.partial) (after_ticks old.setup (suc m) old.receiver.partial)
    → Hears old new out out' at (Ticks (suc m) ∷ es)
hears_ticks old new out out' at m es t ends setup moves E hs l =
    let s = old.setup in
    let e : Event = Ticks (suc m) in
    let one = hears_one old new out out' at e E hs (ticks_happen s (suc m) old.receiver.partial) (after_ticks s (suc m) old.receiver.partial) l setup moves
    (ap (ticks_happen s (suc m)) l.partial ∙ sym (ticks_are s at E m)) (ap (after_ticks s (suc m)) l.partial ∙ sym (ticks_more s E m)) in
    let xs = unit_happens s at E e in
    elim ends [
      | inl none ↦ subst (λ (es : List Event). Listens new (E ++ e ∷ es) (hs ++ all_happen s at E (e ∷ es)) × (out' ≡ out ++ over_after hs (all_happen s at E (e ∷ es))))
          (sym none) (with_nil new out out' (E ++ e ∷ []) hs xs one)
      | inr over ↦ (
          let gone : new.receiver.partial ≡ None = (moves hs l.stands l.coming).partial ∙ over in
          let ys' = all_happen new.setup at (E ++ e ∷ []) es in
          let ys = all_happen s at (E ++ e ∷ []) es in
          let same : ys' ≡ ys = ap (λ (s : LinkSetup). all_happen s at (E ++ e ∷ []) es) setup in
          let rest = goes_by new out' at (E ++ e ∷ []) es (hs ++ xs) t gone one.0 in
          let moved : Listens new ((E ++ e ∷ []) ++ es) ((hs ++ xs) ++ ys) = subst (λ w. Listens new ((E ++ e ∷ []) ++ es) ((hs ++ xs) ++ w)) same rest.0 in (
            subst (λ (F : List Event). Listens new F (hs ++ (xs ++ ys))) (append_assoc E (e ∷ []) es)
                (subst (λ w. Listens new ((E ++ e ∷ []) ++ es) w) (append_assoc hs xs ys) moved),
            rest.1 ∙ (ap₂ (λ (u : List Over) (w : List Happening). u ++ over_after (hs ++ xs) w) one.1 same
                ∙ (append_assoc out (over_after hs xs) (over_after (hs ++ xs) ys) ∙ ap (λ w. out ++ w) (sym (over_append hs xs ys)))),
          ))
    ]

ends_within : (s : LinkSetup) (o : Option Receiving) → s.n_cr ≤ 60000 → after_ticks s 60000 o ≡ None
ends_within s None le = refl
ends_within s (Some p) le = grind (arith, nat_tests)

pub waits_some : (old new : Listener) (out out' : List Over) (at : CaptureLine) (ms count : ℕ) → count ≡ min ms 60000 → 1 ≤ count → old.setup.n_cr ≤ 60000
    → new.setup ≡ old.setup → Moves old new out out' (ticks_happen old.setup count old.receiver.partial) (after_ticks old.setup count old.receiver.partial)
    → Hears old new out out' at (waited ms)
waits_some old new out out' at ms count is some le setup moves = of_count count is some moves
  where
    short : (m : ℕ) → suc m ≡ min ms 60000 → ms < 60000 → waited ms ≡ Ticks (suc m) ∷ []
    short m e less =
        let none : ms / 60000 ≡ 0 = omega (arith, less) in
        let rest : ms % 60000 ≡ suc m = omega (arith, less, e) in
        let some : (suc m == 0) ≡ false = grind (arith, nat_tests) in
        ap₂ (λ (k r : ℕ). replicate k (Ticks 60000) ++ (if r == 0 then [] else Ticks r ∷ [])) none rest
        ∙ ap (λ (b : Bool). if b then [] else Ticks (suc m) ∷ []) some

    long : (k : ℕ) → ms / 60000 ≡ suc k → waited ms ≡ Ticks 60000 ∷ (replicate k (Ticks 60000) ++ rest_of ms)
    long k e = ap (λ (k : ℕ). replicate k (Ticks 60000) ++ rest_of ms) e

    one_less : (n : ℕ) → 1 ≤ n → (k : ℕ) × (n ≡ suc k)
    one_less zero h = absurd (omega (arith, h))
    one_less (suc k) h = (k, refl)

    of_count : (count : ℕ) → count ≡ min ms 60000 → 1 ≤ count
        → Moves old new out out' (ticks_happen old.setup count old.receiver.partial) (after_ticks old.setup count old.receiver.partial)
        → Hears old new out out' at (waited ms)
    of_count zero e h moved = absurd (omega (arith, h))
    of_count (suc m) e h moved = elim (nat_lt ms 60000) as (λ b. nat_lt ms 60000 ≡ b → Hears old new out out' at (waited ms)) [
      | true ↦ λ t. let less : ms < 60000 = grind (arith, nat_tests) in
          subst (λ (es : List Event). Hears old new out out' at es) (sym (short m e less)) (hears_ticks old new out out' at m [] tt (inl refl) setup moved)
      | false ↦ λ t.
          let above : 60000 ≤ ms = grind (arith, nat_tests) in
          let all : suc m ≡ 60000 = omega (arith, e, above) in
          let k = one_less (ms / 60000) (omega (arith, above)) in
          let rest : List Event = replicate k.0 (Ticks 60000) ++ rest_of ms in
          let are : AreTicks rest = same_ticks k.0 60000 (rest_of ms) (omega arith) (rest_ticks (ms % 60000) (ms % 60000 == 0) refl) in
          let over : after_ticks old.setup (suc m) old.receiver.partial ≡ None =
          ap (λ (n : ℕ). after_ticks old.setup n old.receiver.partial) all ∙ ends_within old.setup old.receiver.partial le in
          subst (λ (es : List Event). Hears old new out out' at es)
          (ap (λ (n : ℕ). Ticks n ∷ rest) all ∙ sym (long k.0 k.1))
          (hears_ticks old new out out' at m rest are (inr over) setup moved)
    ] refl

-- ---- results

pub then_ok : {A E : Type 0} (r : Result A E) (P Q : Type 0) → OnOk r P → (P → Q) → OnOk r Q
then_ok (Ok x) P Q h f = f h
then_ok (Err e) P Q h f = tt

pub both_ok : {A E : Type 0} (r : Result A E) (P Q R : Type 0) → OnOk r P → OnOk r Q → (P → Q → R) → OnOk r R
both_ok (Ok x) P Q R h i f = f h i
both_ok (Err e) P Q R h i f = tt
