-- How many exchanges hear the message that is coming in.
use Rattle.std.proofs.Common.{◌≡◌, ◌≤◌, ℕ, zero, suc, ◌+◌, Bool, true, false, Option, Some, None, List, [], ◌∷◌, ◌++◌, length, map, refl, ap, ◌∙◌, arith}
use Rattle.std.proofs.lemmas.List.{append-nil}
use Rattle.std.proofs.lemmas.List.Elements.{filter-append}
use Rattle.std.specs.List.{filter, list_any}
use Rattle.std.specs.Prelude.{cond, if◌then◌else◌, ◌||◌}
use Rattle.diag_exchange.specs.declared.happening.Heard.{Heard}
use Rattle.diag_exchange.specs.declared.happening.AskedRequest.{AskedRequest}
use Rattle.diag_exchange.specs.declared.happening.Start.{Start}
use Rattle.diag_exchange.specs.declared.open.Open.{Open}
use Rattle.diag_exchange.specs.Asking.{change_last, is_pending}
use Rattle.diag_exchange.specs.Streaming.{asked_again, finish, hear, hearing, hears_it, hears_no_more, may_hear, opened, with_message}
use Rattle.diag_exchange.proofs.Lists.{change_last_here, change_later, change_not_here, or_left, or_right}

abbrev pub count : List Open → ℕ
count es = length (filter hears_it es)

len_same : {X : Type 0} (b : Bool) (x y : X) (xs ys : List X) → length xs ≡ length ys → length (cond b (x ∷ xs) xs) ≡ length (cond b (y ∷ ys) ys)
len_same true x y xs ys e = ap suc e
len_same false x y xs ys e = e

len_most : {X : Type 0} (b : Bool) (x : X) (xs : List X) → length (cond b (x ∷ xs) xs) ≤ suc (length xs)
len_most true x xs = omega arith
len_most false x xs = omega arith

len_least : {X : Type 0} (b : Bool) (x : X) (xs : List X) → length xs ≤ length (cond b (x ∷ xs) xs)
len_least true x xs = omega arith
len_least false x xs = omega arith

len_both : {X : Type 0} (b : Bool) (x y : X) (xs ys : List X) → length xs ≤ suc (length ys) → length (cond b (x ∷ xs) xs) ≤ suc (length (cond b (y ∷ ys) ys))
len_both true x y xs ys e = omega (arith, e)
len_both false x y xs ys e = e

pub count_asked : (r : AskedRequest) (es : List Open) → count (map (asked_again r) es) ≡ count es
count_asked r [] = refl
count_asked r (e ∷ es) = len_same e.hears (asked_again r e) e (filter hears_it (map (asked_again r) es)) (filter hears_it es) (count_asked r es)

module _ (t : Open → Bool) where
  kept_case : (b : Bool) (e : Open) (es : List Open) → count (filter t es) ≤ count es → count (cond b (e ∷ filter t es) (filter t es)) ≤ count (e ∷ es)
  kept_case true e es rest = len_under e.hears e e (filter hears_it (filter t es)) (filter hears_it es) rest
    where
      len_under : (b : Bool) (x y : Open) (xs ys : List Open) → length xs ≤ length ys → length (cond b (x ∷ xs) xs) ≤ length (cond b (y ∷ ys) ys)
      len_under true x y xs ys le = omega (arith, le)
      len_under false x y xs ys le = le
  kept_case false e es rest = let more = len_least e.hears e (filter hears_it es) in omega (arith, more, rest)

  pub count_filter : (es : List Open) → count (filter t es) ≤ count es
  count_filter [] = omega arith
  count_filter (e ∷ es) = kept_case (t e) e es (count_filter es)

-- one more hears it at most
module _ (p : Open → Bool) where
  hearing_case : (e : Open) (es : List Open) → count (change_last p hearing es) ≤ suc (count es) → (a h : Bool) → list_any p es ≡ a → p e ≡ h
      → count (change_last p hearing (e ∷ es)) ≤ suc (count (e ∷ es))
  hearing_case e es rest true h some here = rw (change_later p hearing e es some)
      (len_both e.hears e e (filter hears_it (change_last p hearing es)) (filter hears_it es) rest)
  hearing_case e es rest false true none here = rw (change_last_here p hearing e es none here)
      (let more = len_least e.hears e (filter hears_it es) in omega (arith, more))
  hearing_case e es rest false false none here = rw (change_not_here p hearing e es none here) (omega arith)

  pub count_hearing : (es : List Open) → count (change_last p hearing es) ≤ suc (count es)
  count_hearing [] = omega arith
  count_hearing (e ∷ es) = hearing_case e es (count_hearing es) (list_any p es) (p e) refl refl

-- none hears it any more
none_hears : (es : List Open) → list_any hears_it es ≡ false → count es ≡ 0
none_hears [] e = refl
none_hears (x ∷ es) e =
    ap (λ b. length (cond b (x ∷ filter hears_it es) (filter hears_it es))) (or_left x.hears (list_any hears_it es) e)
    ∙ none_hears es (or_right x.hears (list_any hears_it es) e)

some_case : (x : Open) (es : List Open) → (list_any hears_it es ≡ true → 1 ≤ count es) → (b : Bool) → (b || list_any hears_it es) ≡ true
    → 1 ≤ length (cond b (x ∷ filter hears_it es) (filter hears_it es))
some_case x es rest true e = omega arith
some_case x es rest false e = rest e

some_hears : (es : List Open) → list_any hears_it es ≡ true → 1 ≤ count es
some_hears [] e = cc
some_hears (x ∷ es) e = some_case x es (λ h. some_hears es h) x.hears e

count_yes : (x : Open) (es : List Open) → x.hears ≡ true → count (x ∷ es) ≡ suc (count es)
count_yes x es e = ap (λ (b : Bool). length (cond b (x ∷ filter hears_it es) (filter hears_it es))) e

count_no : (x : Open) (es : List Open) → x.hears ≡ false → count (x ∷ es) ≡ count es
count_no x es e = ap (λ (b : Bool). length (cond b (x ∷ filter hears_it es) (filter hears_it es))) e

least_of : (m n : ℕ) → 1 ≤ m → m ≤ n → (k : ℕ) × (n ≡ suc k)
least_of m zero one le = absurd (omega (arith, one, le))
least_of m (suc k) one le = (k, refl)

module _ (f : Open → Open) (off : (e : Open) → (f e).hears ≡ false) where
  off_case : (e : Open) (es : List Open) (n : ℕ) → ((m : ℕ) → count es ≤ suc m → count (change_last hears_it f es) ≤ m) → count (e ∷ es) ≤ suc n
      → (a h : Bool) → list_any hears_it es ≡ a → e.hears ≡ h → count (change_last hears_it f (e ∷ es)) ≤ n
  off_case e es n rest few true true some here =
      let less : count es ≤ n = omega (arith, few, count_yes e es here) in
      let k = least_of (count es) n (some_hears es some) less in
      let under = rest k.0 (omega (arith, less, k.1)) in
      rw (change_later hears_it f e es some) (omega (arith, under, count_yes e (change_last hears_it f es) here, k.1))
  off_case e es n rest few true false some here =
      let under = rest n (omega (arith, few, count_no e es here)) in
      rw (change_later hears_it f e es some) (omega (arith, under, count_no e (change_last hears_it f es) here))
  off_case e es n rest few false true none here =
      rw (change_last_here hears_it f e es none here) (omega (arith, count_no (f e) es (off e), none_hears es none))
  off_case e es n rest few false false none here =
      rw (change_not_here hears_it f e es none here) (omega (arith, count_no e es here, none_hears es none))

  pub count_off : (es : List Open) (n : ℕ) → count es ≤ suc n → count (change_last hears_it f es) ≤ n
  count_off [] n few = omega arith
  count_off (e ∷ es) n few = off_case e es n (λ m. count_off es m) few (list_any hears_it es) e.hears refl refl

-- ---- with a happening more

pub count_opened : (r : AskedRequest) (es : List Open) → count (es ++ opened r ∷ []) ≡ count es
count_opened r es = ap length (filter-append hears_it es (opened r ∷ []) ∙ append-nil (filter hears_it es))

pub count_hear : (start : Start) (es : List Open) → count (hear start es) ≤ suc (count es)
count_hear start es = hear_case (list_any (may_hear true start) es)
  where
    hear_case : (b : Bool) → count (if b then change_last (may_hear true start) hearing es else change_last (may_hear false start) hearing es) ≤ suc (count es)
    hear_case true = count_hearing (may_hear true start) es
    hear_case false = count_hearing (may_hear false start) es

off_message : (m : Heard) (e : Open) → (with_message m e).hears ≡ false
off_message m e = off_by (is_pending m)
  where
    off_by : (b : Bool) → (if b then record e { pendings = e.pendings + 1; hears = false } else record e { answer = Some m; hears = false }).hears ≡ false
    off_by true = refl
    off_by false = refl

pub count_finish : (o : Option Heard) (es : List Open) → count es ≤ 1 → count (finish o es) ≤ 0
count_finish None es few = count_off hears_no_more (λ e. refl) es 0 few
count_finish (Some m) es few = count_off (with_message m) (off_message m) es 0 few
