-- A line to a tester: its parts one behind the other.
use Rattle.std.proofs.Common.{◌≡◌, ℕ, ◌+◌, Some, Vec, Global, vec_len, Bool, true, false, zero, suc, Option, None, List, [], ◌∷◌, ◌++◌, length, map, take, drop, refl, ap, ap₂, subst, sym, ◌∙◌, append_assoc, arith}
use Rattle.std.proofs.lemmas.Bool.Decides.{nat_tests}
use Rattle.std.proofs.lemmas.List.{append-nil, length-append, map-append, nil_from_length, reverse-append}
use Rattle.std.proofs.lemmas.List.Elements.{filter-append}
use Rattle.std.proofs.lemmas.List.Folds.{list_any-append}
use Rattle.std.specs.List.{filter}
use Rattle.std.specs.Prelude.{◌==◌, ◌||◌, reverse, slice_get}
use Rattle.diag_can.specs.Log.{waited}
use Rattle.diag_can.specs.Event.{Event}
use Rattle.diag_setup.specs.declared.raw.RawSetup.{RawSetup}
use Rattle.diag_exchange.specs.Agreeing.{is_compared}
use Rattle.diag_exchange.specs.Exchanges.{over, over_after, over_with}
use Rattle.diag_exchange.specs.declared.happening.Happening.{Happening}
use Rattle.diag_exchange.specs.declared.happening.Happening.TheVariants.{Asked}
use Rattle.diag_exchange.specs.Over.{Over}
use Rattle.diag_exchange.specs.declared.happening.CaptureLine.{CaptureLine}
use Rattle.diag_exchange.specs.declared.happening.AskedRequest.{AskedRequest}
use Rattle.diag_expect.specs.Expecting.{asked_at}
use Rattle.diag_expect.specs.Entered.{Entered}
use Rattle.diag_listen.specs.Listening.{Hears, HearsRequest, Listens, all_happen}
use Rattle.diag_listen.specs.declared.listener.Listener.{Listener}
use Rattle.diag_listen.proofs.Hearing.{over_append, waits_none}
use Rattle.diag_judge.specs.Judging.{AreCounts, HearsLine, HearsRequests, JudgesLine, counts_of, differs, frame_events, judged_for, line_happens, request_happens, requests_happen}
use Rattle.diag_judge.specs.declared.tester.Counts.{Counts}
use Rattle.diag_judge.specs.declared.tester.Tester.{Tester}
use Rattle.diag_judge.specs.declared.tester.Judged.{Judged}

pub none_over : {empty : Bool} (over : Vec Over Global) → empty ≡ (vec_len over == 0) → empty ≡ true → over.items ≡ []
none_over over is tested = nil_from_length over.items (grind (arith, nat_tests))

-- what stands last
pub last_at : {X : Type 0} (less : List X) (one : X) → slice_get (less ++ one ∷ []) (length less) ≡ Some one
last_at [] one = refl
last_at (x ∷ less) one = last_at less one

-- over these, and those behind them
pub handed_on : (hs xs ys : List Happening) (out out' out'' : List Over) → out' ≡ out ++ over_after hs xs → out'' ≡ out' ++ over_after (hs ++ xs) ys
    → out'' ≡ out ++ over_after hs (xs ++ ys)
handed_on hs xs ys out out' out'' first second =
    second ∙ (ap (λ w. w ++ over_after (hs ++ xs) ys) first ∙ (append_assoc out (over_after hs xs) (over_after (hs ++ xs) ys)
    ∙ ap (λ w. out ++ w) (sym (over_append hs xs ys))))

next_at : {X : Type 0} (n : ℕ) (all ys : List X) (x : X) → x ∷ ys ≡ drop n all → (ys ≡ drop (suc n) all) × (take (suc n) all ≡ take n all ++ x ∷ [])
next_at zero [] ys x e = cc
next_at zero (z ∷ all) ys x e = (ap (drop 1) e, ap (take 1) (sym e))
next_at (suc n) [] ys x e = cc
next_at (suc n) (z ∷ all) ys x e =
    let more = next_at n all ys x e in
    (more.0, ap (λ w. z ∷ w) more.1)

-- of those that are left, which stand turned round, the last is the next
pub next_of : {X : Type 0} (n : ℕ) (all left less : List X) (x : X) → reverse left ≡ drop n all → left ≡ less ++ x ∷ []
    → (reverse less ≡ drop (suc n) all) × (take (suc n) all ≡ take n all ++ x ∷ [])
next_of n all left less x are is = next_at n all (reverse less) x (sym (reverse-append less (x ∷ [])) ∙ (ap reverse (sym is) ∙ are))

-- a line without a frame
pub nothing_heard : (own : Listener) (out : List Over) (at : CaptureLine) → Hears own own out out at []
nothing_heard own out at E hs l = (
  subst (λ (es : List Event). Listens own es (hs ++ [])) (sym (append-nil E)) (subst (λ (w : List Happening). Listens own E w) (sym (append-nil hs)) l),
  sym (append-nil out),
)

-- time, requests, and a frame
pub line_heard : (setup : RawSetup) (at : CaptureLine) (old later asked new : Listener) (o1 o2 o3 o4 : List Over) (span : ℕ) (entered : List Entered)
    (frame : Option (List ℕ))
    → Hears old later o1 o2 at (waited span)
    → HearsRequests setup at later asked o2 o3 entered
    → asked.setup ≡ old.setup
    → Hears asked new o3 o4 at (frame_events frame)
    → HearsLine setup at old new o1 o4 span entered frame
line_heard setup at old later asked new o1 o2 o3 o4 span entered frame time requests same last E hs l =
    let F = E ++ waited span in
    let xs = all_happen old.setup at E (waited span) in
    let ys = requests_happen setup at entered in
    let zs = all_happen old.setup at F (frame_events frame) in
    let zs' = all_happen asked.setup at F (frame_events frame) in
    let one = time E hs l in
    let two = requests F (hs ++ xs) one.0 in
    let three = last F ((hs ++ xs) ++ ys) two.0 in
    let is : zs' ≡ zs = ap (λ s. all_happen s at F (frame_events frame)) same in
    let front : (hs ++ xs) ++ ys ≡ hs ++ (xs ++ ys) = append_assoc hs xs ys in
    let joined : ((hs ++ xs) ++ ys) ++ zs' ≡ hs ++ ((xs ++ ys) ++ zs) =
    ap (λ w. w ++ zs') front ∙ (append_assoc hs (xs ++ ys) zs' ∙ ap (λ w. hs ++ ((xs ++ ys) ++ w)) is) in
    let first : o3 ≡ o1 ++ over_after hs (xs ++ ys) = handed_on hs xs ys o1 o2 o3 one.1 two.1 in
    let second : o4 ≡ o3 ++ over_after (hs ++ (xs ++ ys)) zs' = three.1 ∙ ap (λ w. o3 ++ over_after w zs') front in
    let whole : o4 ≡ o1 ++ over_after hs ((xs ++ ys) ++ zs') = handed_on hs (xs ++ ys) zs' o1 o3 o4 first second in (
      subst (λ (w : List Happening). Listens new (F ++ frame_events frame) w) joined three.0,
      whole ∙ ap (λ w. o1 ++ over_after hs ((xs ++ ys) ++ w)) is,
    )

-- a request more
pub request_heard : (setup : RawSetup) (at : CaptureLine) (mid new : Listener) (o1 o2 o3 : List Over) (entered : List Entered) (one : Entered) (request : AskedRequest)
    (E : List Event) (hs : List Happening)
    → request ≡ asked_at setup at one
    → HearsRequest mid new o2 o3 request
    → Listens mid E (hs ++ requests_happen setup at entered) × (o2 ≡ o1 ++ over_after hs (requests_happen setup at entered))
    → Listens new E (hs ++ requests_happen setup at (entered ++ one ∷ []))
    × (o3 ≡ o1 ++ over_after hs (requests_happen setup at (entered ++ one ∷ [])))
request_heard setup at mid new o1 o2 o3 entered one request E hs is asks before =
    let xs = requests_happen setup at entered in
    let ys = requests_happen setup at (one ∷ []) in
    let same : Asked request ∷ [] ≡ ys = ap (λ r. Asked r ∷ []) is in
    let more = asks E (hs ++ xs) before.0 in
    let second : o3 ≡ o2 ++ over_after (hs ++ xs) ys =
    more.1 ∙ (ap (λ w. o2 ++ w) (sym (append-nil (over_with (hs ++ xs) (Asked request)))) ∙ ap (λ w. o2 ++ over_after (hs ++ xs) w) same) in
    let joined : xs ++ ys ≡ requests_happen setup at (entered ++ one ∷ []) = sym (map-append (request_happens setup at) entered (one ∷ [])) in (
      subst
          (λ (w : List Happening). Listens new E w) (append_assoc hs xs ys ∙ ap (λ w. hs ++ w) joined)
          (subst (λ (w : List Happening). Listens new E ((hs ++ xs) ++ w)) same more.0),
      handed_on hs xs ys o1 o2 o3 before.1 second ∙ ap (λ w. o1 ++ over_after hs w) joined,
    )

-- one exchange more was counted
same_counts : (a b : Counts) → a.count ≡ b.count → a.differ ≡ b.differ → a.compared ≡ b.compared → a ≡ b
same_counts a b p q r =
    ap (λ n. record { count = n; differ = a.differ; compared = a.compared }) p
    ∙ (ap (λ n. record { count = b.count; differ = n; compared = a.compared }) q
    ∙ ap (λ (c : Bool). record { count = b.count; differ = b.differ; compared = c }) r)

or_none : (b : Bool) → (b || false) ≡ b
or_none true = refl
or_none false = refl

pub counts_one : (old new : Counts) (os : List Over) (o : Over) → AreCounts old os → new.count ≡ old.count + 1
    → new.differ ≡ old.differ + length (filter differs (o ∷ [])) → new.compared ≡ (old.compared || is_compared o) → AreCounts new (os ++ o ∷ [])
counts_one old new os o h count differ compared = same_counts new (counts_of (os ++ o ∷ []))
    (count ∙ (ap (λ (c : Counts). c.count + 1) h ∙ sym (length-append os (o ∷ []))))
    (differ ∙ (ap (λ (c : Counts). c.differ + length (filter differs (o ∷ []))) h
    ∙ (sym (length-append (filter differs os) (filter differs (o ∷ []))) ∙ ap length (sym (filter-append differs os (o ∷ []))))))
    (compared ∙ (ap₂ (λ (a b : Bool). a || b) (ap (λ (c : Counts). c.compared) h) (sym (or_none (is_compared o)))
    ∙ sym (list_any-append is_compared os (o ∷ []))))

-- a line to a tester
pub line_judged : (setup : RawSetup) (at : CaptureLine) (who : ℕ) (old new : Tester) (heard : Listener) (judged judged' : List Judged) (os : List Over) (span : ℕ)
    (frame : Option (List ℕ))
    → HearsLine setup at old.listener heard [] os span old.entered.items frame
    → new.listener ≡ heard
    → judged' ≡ judged ++ map (judged_for who) os
    → ((before : List Over) → AreCounts old.counts before → AreCounts new.counts (before ++ os))
    → JudgesLine setup at who old new judged judged' span frame
line_judged setup at who old new heard judged judged' os span frame hears same is counts E hs j =
    let happened = line_happens setup old.listener.setup at E span old.entered.items frame in
    let both = hears E hs j.listens in
    let more : over (hs ++ happened) ≡ over hs ++ os = over_append [] hs happened ∙ ap (λ w. over hs ++ w) (sym both.1) in (
      record {
        listens = subst (λ (l : Listener). Listens l ((E ++ waited span) ++ frame_events frame) (hs ++ happened)) (sym same) both.0;
        counts = subst (λ (w : List Over). AreCounts new.counts w) (sym more) (counts (over hs) j.counts);
      },
      is ∙ ap (λ w. judged ++ map (judged_for who) w) both.1,
    )

-- time alone, where no message is coming in
pub idle_judged : (setup : RawSetup) (at : CaptureLine) (who : ℕ) (own : Tester) (judged : List Judged) (span : ℕ)
    → own.listener.exchanges.coming ≡ None
    → own.entered.items ≡ []
    → JudgesLine setup at who own own judged judged span None
idle_judged setup at who own judged span none empty =
    let requests : HearsRequests setup at own.listener own.listener [] [] own.entered.items =
    subst (λ (es : List Entered). HearsRequests setup at own.listener own.listener [] [] es) (sym empty)
    (λ E hs l. (subst (λ (w : List Happening). Listens own.listener E w) (sym (append-nil hs)) l, refl)) in
    line_judged setup at who own own own.listener judged judged [] span None
    (line_heard setup at own.listener own.listener own.listener own.listener [] [] [] [] span own.entered.items None
    (waits_none own.listener [] at span none) requests refl (nothing_heard own.listener [] at))
    refl (sym (append-nil judged)) (λ before h. subst (λ (w : List Over). AreCounts own.counts w) (sym (append-nil before)) h)
