-- Of one first byte at most two exchanges are kept, and one more while a message comes in.
use Rattle.std.proofs.Common.{◌≡◌, ◌≤◌, ℕ, ◌+◌, Bool, true, false, Option, Some, None, List, [], ◌∷◌, length, map, refl, ap, ap₂, subst, sym, ◌∙◌, arith, eq-eqb}
use Rattle.std.proofs.lemmas.Bool.{eqb-true}
use Rattle.std.proofs.lemmas.List.Folds.{list_any-append}
use Rattle.std.specs.List.{filter, list_any}
use Rattle.std.specs.Option.{option_to_list}
use Rattle.std.specs.Prelude.{cond, if◌then◌else◌, not, ◌&&◌, ◌||◌, ◌==◌}
use Rattle.diag_exchange.specs.declared.happening.Happening.{Happening}
use Rattle.diag_exchange.specs.declared.happening.Happening.TheVariants.{Asked, Began, Came, Lost}
use Rattle.diag_exchange.specs.declared.happening.Heard.{Heard}
use Rattle.diag_exchange.specs.declared.happening.AskedRequest.{AskedRequest}
use Rattle.diag_exchange.specs.declared.happening.Start.{Start}
use Rattle.diag_exchange.specs.declared.open.Open.{Open}
use Rattle.diag_exchange.specs.Asking.{Course, and_behind, asked, change_last, comes_in, completes, courses, courses_after, finish, first_byte, happens, hearing, hears_it, hears_no_more, is_answered, is_candidate, is_loud, is_loud_candidate, is_replaced, replaced_by, replaces, with_answer}
use Rattle.diag_exchange.specs.Exchanges.{is_closed, is_open}
use Rattle.diag_exchange.specs.Streaming.{StandsFor, kept}
use Rattle.diag_exchange.specs.Taking.{has_first_byte}
use Rattle.diag_exchange.proofs.Courses.{closed_by, was_answered}
use Rattle.diag_exchange.proofs.Hearing.{count}
use Rattle.diag_exchange.proofs.Lists.{Each, Pairs, and_true, each_filter, each_map, filter_true, not_true, or_right, or_true, pairs_change, pairs_filter, pairs_map, pairs_push}

-- ---- what a request knows of a later one

abbrev Knows : Course → Course → Type 0
Knows c d = replaces d.request c.request ≡ true → is_replaced c ≡ true

module _ (r : AskedRequest) (c : Course) where
  replaced_more : is_replaced (and_behind r c) ≡ (is_replaced c || (replaces r c.request || false))
  replaced_more = list_any-append (replaced_by c.request) c.behind (record { request = r; answered = is_answered c } ∷ [])

  knows_new : Knows (and_behind r c) (asked r)
  knows_new e = replaced_more ∙ (ap (λ b. is_replaced c || (b || false)) e ∙ or_true (is_replaced c))

  knows_more : (d : Course) → Knows c d → Knows (and_behind r c) (and_behind r d)
  knows_more d k e = replaced_more ∙ ap (λ b. b || (replaces r c.request || false)) (k e)

each_new : (r : AskedRequest) (cs : List Course) → Each (λ c. Knows c (asked r)) (map (and_behind r) cs)
each_new r [] = tt
each_new r (c ∷ cs) = (knows_new r c, each_new r cs)

knows_changed : (p : Course → Bool) (cs : List Course) → Pairs Knows cs → Pairs Knows (change_last p hearing cs)
knows_changed p cs k = pairs_change Knows p hearing (λ c d e. e) (λ c d e. e) cs k

knows_finish : (o : Option Heard) (cs : List Course) → Pairs Knows cs → Pairs Knows (finish o cs)
knows_finish None cs k = pairs_change Knows hears_it hears_no_more (λ c d e. e) (λ c d e. e) cs k
knows_finish (Some m) cs k = pairs_change Knows hears_it (with_answer m) (λ c d e. e) (λ c d e. e) cs k

knows_hear : (start : Start) (cs : List Course) → Pairs Knows cs → (b : Bool)
    → Pairs Knows (if b then change_last (is_loud_candidate start) hearing cs else change_last (is_candidate start) hearing cs)
knows_hear start cs k true = knows_changed (is_loud_candidate start) cs k
knows_hear start cs k false = knows_changed (is_candidate start) cs k

knows_then : (before : Option Start) (h : Happening) (cs : List Course) → Pairs Knows cs → Pairs Knows (happens before h cs)
knows_then before (Asked r) cs k =
    pairs_push Knows (map (and_behind r) cs) (asked r) (pairs_map Knows Knows (and_behind r) (λ c d. knows_more r c d) cs k) (each_new r cs)
knows_then before (Began start) cs k = knows_hear start cs k (list_any (is_loud_candidate start) cs)
knows_then before (Came bytes) cs k = knows_finish (completes before (Came bytes)) cs k
knows_then before Lost cs k = knows_finish None cs k

knows_all : (before : Option Start) (cs : List Course) (hs : List Happening) → Pairs Knows cs → Pairs Knows (courses_after before cs hs)
knows_all before cs [] k = k
knows_all before cs (h ∷ hs) k = knows_all (comes_in before h) (happens before h cs) hs (knows_then before h cs k)

-- ---- what is kept of them

abbrev KnowsKept : Open → Open → Type 0
KnowsKept a b = replaces b.request a.request ≡ true → a.replaced ≡ true

-- one that hears no message isn't replaced
abbrev Stays : Open → Type 0
Stays e = e.hears ≡ false → e.replaced ≡ false

open_stays : (c : Course) → is_open c ≡ true → Stays (kept c)
open_stays c e h =
    or_right (list_any was_answered c.behind) (is_replaced c) (sym (closed_by c) ∙ not_closed (is_closed c) (not_true (is_closed c && not c.hears) e))
  where
    not_closed : (b : Bool) → (b && not c.hears) ≡ false → b ≡ false
    not_closed b e = no_and b (sym (ap (λ (h : Bool). b && not h) h) ∙ e)
      where
        no_and : (b : Bool) → (b && true) ≡ false → b ≡ false
        no_and true e = e
        no_and false e = e

module _ (service : ℕ) where
  abbrev quiet : Open → Bool
  quiet e = has_first_byte service e && not e.hears

  -- ---- those that hear none

  abbrev Fixed : Open → Type 0
  Fixed e = (first_byte e.request ≡ service) × (e.replaced ≡ false)

  fixed_of : (e : Open) → Stays e → quiet e ≡ true → Fixed e
  fixed_of e s q =
      let both = and_true (has_first_byte service e) (not e.hears) q in (eqb-true (first_byte e.request) service both.0, s (not_true e.hears both.1))

  fixed_all : (es : List Open) → Each Stays es → Each (λ e. quiet e ≡ true) es → Each Fixed es
  fixed_all [] s q = tt
  fixed_all (e ∷ es) s q = (fixed_of e s.0 q.0, fixed_all es s.1 q.1)

  false_true : false ≡ true → ⊥
  false_true e = cc

  not_yes : (b : Bool) → (b ≡ true → ⊥) → b ≡ false
  not_yes true f = absurd (f refl)
  not_yes false f = refl

  silent_later : (a b : Bool) → (b || not a) ≡ false → b ≡ false
  silent_later a true e = cc
  silent_later a false e = refl

  -- behind one that isn't replaced stand silent ones alone
  behind_silent : (a b : Open) → KnowsKept a b → Fixed a → Fixed b → is_loud b.request ≡ false
  behind_silent a b k p q =
      let same : (first_byte b.request == first_byte a.request) ≡ true = eq-eqb (first_byte b.request) (first_byte a.request) (q.0 ∙ sym p.0) in
      let none : replaces b.request a.request ≡ false = not_yes (replaces b.request a.request) (λ e. false_true (sym p.1 ∙ k e)) in
      silent_later (is_loud a.request) (is_loud b.request) (ap (λ s. s && (is_loud b.request || not (is_loud a.request))) (sym same) ∙ none)

  -- and behind a silent one none
  not_behind_silent : (a b : Open) → KnowsKept a b → Fixed a → Fixed b → is_loud a.request ≡ false → ⊥
  not_behind_silent a b k p q silent =
      let same : (first_byte b.request == first_byte a.request) ≡ true = eq-eqb (first_byte b.request) (first_byte a.request) (q.0 ∙ sym p.0) in
      let all : replaces b.request a.request ≡ true = ap₂ (λ s l. s && (is_loud b.request || not l)) same silent ∙ or_true (is_loud b.request) in
      false_true (sym p.1 ∙ k all)

  at_most : (es : List Open) → Each Fixed es → Pairs KnowsKept es → length es ≤ 2
  at_most [] f k = omega arith
  at_most (x ∷ []) f k = omega arith
  at_most (x ∷ y ∷ []) f k = omega arith
  at_most (x ∷ y ∷ z ∷ es) f k = absurd (not_behind_silent y z k.1.0.0 f.1.0 f.1.1.0 (behind_silent x y k.0.0 f.0 f.1.0))

  -- ---- and those that hear one

  split_case : (a b : Bool) (e : Open) (xs ys zs : List Open) → length xs ≤ length ys + length zs
      → length (cond a (e ∷ xs) xs) ≤ length (cond (a && not b) (e ∷ ys) ys) + length (cond b (e ∷ zs) zs)
  split_case true true e xs ys zs le = omega (arith, le)
  split_case true false e xs ys zs le = omega (arith, le)
  split_case false true e xs ys zs le = omega (arith, le)
  split_case false false e xs ys zs le = le

  split : (es : List Open) → length (filter (has_first_byte service) es) ≤ length (filter quiet es) + count es
  split [] = omega arith
  split (e ∷ es) = split_case (has_first_byte service e) e.hears e (filter (has_first_byte service) es) (filter quiet es) (filter (λ e. e.hears) es) (split es)

  few_of : (es : List Open) → Each Stays es → Pairs KnowsKept es → length (filter (has_first_byte service) es) ≤ 2 + count es
  few_of es s k =
      let most = at_most (filter quiet es) (fixed_all (filter quiet es) (each_filter Stays quiet es s) (filter_true quiet es))
      (pairs_filter KnowsKept quiet es k) in
      let parts = split es in
      omega (arith, most, parts)

pub few : (es : List Open) (now : Option Start) (hs : List Happening) → StandsFor es now hs → (service : ℕ)
    → length (filter (has_first_byte service) es) ≤ 2 + length (option_to_list now)
few es now hs s service =
    let all = filter is_open (courses hs) in
    let stay : Each Stays es = subst (Each Stays) (sym s.are_open) (each_map (λ c. is_open c ≡ true) Stays kept open_stays all
    (filter_true is_open (courses hs))) in
    let know : Pairs KnowsKept es = subst (Pairs KnowsKept) (sym s.are_open)
    (pairs_map Knows KnowsKept kept (λ c d k. k) all (pairs_filter Knows is_open (courses hs) (knows_all None [] hs tt))) in
    let most = few_of service es stay know in
    let one = s.one_hears in
    omega (arith, most, one)
