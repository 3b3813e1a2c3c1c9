-- What a request that is compared with a pattern item by item fits, and which row is the first that applies.
use Rattle.std.proofs.Common.{◌≡◌, ℕ, zero, suc, ◌+◌, ◌<◌, ◌≤◌, ◌==◌, ◌&&◌, ◌||◌, Bool, true, false, nat_lt, List, [], ◌∷◌, length, drop, get_or, slice_index_or, slice_index, slice_get, slice_set, Some, None, refl, ap, sym, ◌∙◌, arith, add-one}
use Rattle.std.specs.Prelude.{map, position}
use Rattle.std.specs.List.{list_any, position_or_len}
use Rattle.std.proofs.Math.Seq.{drop-cons}
use Rattle.std.proofs.lemmas.Bool.{lt-ltb, eqb-true, eqb-false}
use Rattle.std.proofs.lemmas.Bool.Decides.{nat_tests}
use Rattle.std.proofs.lemmas.List.Sums.{position_or_len_is}
use Rattle.diag_setup.specs.declared.raw.PatternItem.{PatternItem}
use Rattle.diag_store.specs.declared.answers.Access.{Access}
use Rattle.diag_store.specs.declared.answers.AnswerRow.{AnswerRow}
use Rattle.diag_store.specs.Security.{option_is}
use Rattle.diag_store.specs.Answers.{is_of, fits, applies, first_item, any_late, is_late, row_first, moved_on, rows_moved_on, with_moved_on}

and_false : (b : Bool) → (b && false) ≡ false
and_false true = refl
and_false false = refl

pub fits_short : (items : List PatternItem) (more : Bool) (p : List ℕ) → length p < length items → fits items more p ≡ false
fits_short [] more p h = absurd (omega (arith, h))
fits_short (x ∷ items) more [] h = refl
fits_short (x ∷ items) more (b ∷ p) h = ap (λ r. is_of x b && r) (fits_short items more p (omega (arith, h))) ∙ and_false (is_of x b)

-- one item on
pub fits_step : (items : List PatternItem) (more : Bool) (p : List ℕ) (i : ℕ) (x : PatternItem) (d : ℕ) → i < length items → length items ≤ length p
    → x ≡ get_or items i x
    → fits (drop i items) more (drop i p) ≡ (is_of x (get_or p i d) && fits (drop (i + 1) items) more (drop (i + 1) p))
fits_step items more p i x d h long is =
    rw (drop-cons items i x h, drop-cons p i d (omega (arith, h, long)), ← is, add-one) refl

-- behind the last item
pub fits_end : (items : List PatternItem) (more : Bool) (p : List ℕ) (i : ℕ) → length items ≤ i → i ≤ length items → length items ≤ length p
    → fits (drop i items) more (drop i p) ≡ (more || (length p == length items))
fits_end [] more [] zero h g long = grind (arith, nat_tests)
fits_end [] more (b ∷ p) zero h g long = grind (arith, nat_tests)
fits_end [] more p (suc i) h g long = absurd (omega (arith, g))
fits_end (x ∷ items) more p zero h g long = absurd (omega (arith, h))
fits_end (x ∷ items) more [] (suc i) h g long = absurd (omega (arith, long))
fits_end (x ∷ items) more (b ∷ p) (suc i) h g long =
    fits_end items more p i (omega (arith, h)) (omega (arith, g)) (omega (arith, long)) ∙ ap (λ t. more || t) (grind (arith, nat_tests))

-- ---- which row is the first that applies

-- a row whose first item is another byte doesn't apply
pub other_first : (access : Access) (p : List ℕ) (row : AnswerRow) → 1 ≤ length p → is_of (row_first row) (slice_index p 0) ≡ false
    → applies access p row ≡ false
other_first access [] row some other = absurd (omega arith)
other_first access (b ∷ p) row some other = begins row.pattern other
  where
    begins : (items : List PatternItem) → is_of (first_item items) b ≡ false
        → (fits items row.more (b ∷ p) && (row.session == 0 || row.session == access.session) && (row.level == 0 || option_is access.unlocked row.level)) ≡ false
    begins [] e = cc
    begins (x ∷ items) e = rw e refl

-- no row up to an index applies
abbrev pub NoneBefore : {X : Type 0} → (X → Bool) → List X → ℕ → Type 0
NoneBefore {X} test xs n = (k : ℕ) (d : X) → k < n → k < length xs → test (slice_index_or xs k d) ≡ false

-- nor the one at it
pub none_more : {X : Type 0} (test : X → Bool) (xs : List X) (i : ℕ) → NoneBefore test xs i → ((d : X) → test (slice_index_or xs i d) ≡ false)
    → NoneBefore test xs (i + 1)
none_more test xs i none here k d below within =
    elim (k == i) as (λ b. (k == i) ≡ b → test (slice_index_or xs k d) ≡ false) [
      | true ↦ λ e. rw (eqb-true k i e) (here d)
      | false ↦ λ e. let apart = eqb-false k i e in none k d (omega arith) within
    ] refl

-- a row whose first item isn't that of the request
pub other_at : (access : Access) (p : List ℕ) (rows : List AnswerRow) (firsts : List PatternItem) (i : ℕ) (x : PatternItem) → firsts ≡ map row_first rows
    → i < length firsts → 1 ≤ length p → is_of (slice_index_or firsts i x) (slice_index p 0) ≡ false
    → (d : AnswerRow) → applies access p (slice_index_or rows i d) ≡ false
other_at access p rows firsts i x same within some other d =
    let at : slice_index_or firsts i x ≡ row_first (slice_index_or rows i d) = rw same (first_of_row rows i d x (rw same at within)) in
    other_first access p (slice_index_or rows i d) some (ap (λ y. is_of y (slice_index p 0)) (sym at) ∙ other)
  where
    first_of_row : (rows : List AnswerRow) (i : ℕ) (d : AnswerRow) (x : PatternItem) → i < length (map row_first rows)
        → slice_index_or (map row_first rows) i x ≡ row_first (slice_index_or rows i d)
    first_of_row [] i d x below = absurd (omega arith)
    first_of_row (row ∷ rows) zero d x below = refl
    first_of_row (row ∷ rows) (suc i) d x below = first_of_row rows i d x (omega arith)

-- what a list has at an index doesn't depend on what stands for none
pub any_default : {X : Type 0} (xs : List X) (i : ℕ) (d e : X) → i < length xs → slice_index_or xs i d ≡ slice_index_or xs i e
any_default [] i d e within = absurd (omega arith)
any_default (x ∷ xs) zero d e within = refl
any_default (x ∷ xs) (suc i) d e within = any_default xs i d e (omega arith)

pub first_at : {X : Type 0} (test : X → Bool) (xs : List X) (i : ℕ) (x : X) → NoneBefore test xs i → i < length xs → test (slice_index_or xs i x) ≡ true
    → position test xs ≡ Some i
first_at test xs i x none within here =
    let first : position_or_len test xs ≡ i = position_or_len_is test xs i x (omega arith) (λ k below. none k x below (omega arith)) (λ below. here) in
    rw (first, lt-ltb i (length xs) within) refl

pub first_nowhere : {X : Type 0} (test : X → Bool) (xs : List X) (n : ℕ) → NoneBefore test xs n → length xs ≤ n → position test xs ≡ None
first_nowhere test [] n none past = refl
first_nowhere test (x ∷ xs) n none past =
    let end : position_or_len test (x ∷ xs) ≡ length (x ∷ xs) =
    position_or_len_is test (x ∷ xs) (length (x ∷ xs)) x (omega arith) (λ k below. none k x (omega arith) below) (λ below. absurd (omega arith)) in
    let not_below : nat_lt (length (x ∷ xs)) (length (x ∷ xs)) ≡ false = grind (arith, nat_tests) in
    rw (end, not_below) refl

-- ---- a row whose next template moves on

-- what is told of each row stays, where it doesn't look at the next template
stays : {X : Type 0} (f : AnswerRow → X) → ((row : AnswerRow) → f (moved_on row) ≡ f row) → (rows : List AnswerRow) (index : ℕ)
    → map f (rows_moved_on rows index) ≡ map f rows
stays f same [] index = refl
stays f same (row ∷ rows) zero = ap (λ x. x ∷ map f rows) (same row)
stays f same (row ∷ rows) (suc index) =
    let rest = stays f same rows index in
    elim (slice_get rows index) as (λ o. map f (with_moved_on rows index o) ≡ map f rows
    → map f (with_moved_on (row ∷ rows) (suc index) o) ≡ map f (row ∷ rows)) [
      | None ↦ λ e. refl
      | Some moved ↦ λ e. ap (λ xs. f row ∷ xs) e
    ] rest

-- the first items stay
pub firsts_stay : (rows : List AnswerRow) (index : ℕ) → map row_first (rows_moved_on rows index) ≡ map row_first rows
firsts_stay rows index = stays row_first (λ row. refl) rows index

any_by_each : (rows : List AnswerRow) → any_late rows ≡ list_any (λ b. b) (map is_late rows)
any_by_each [] = refl
any_by_each (row ∷ rows) = ap (λ b. is_late row || b) (any_by_each rows)

-- and whether one has its answer go later
pub late_stays : (rows : List AnswerRow) (index : ℕ) → any_late (rows_moved_on rows index) ≡ any_late rows
late_stays rows index =
    any_by_each (rows_moved_on rows index) ∙ (ap (list_any (λ b. b)) (stays is_late (λ row. refl) rows index) ∙ sym (any_by_each rows))

pub count_stays : (rows : List AnswerRow) (index : ℕ) → length (rows_moved_on rows index) ≡ length rows
count_stays [] index = refl
count_stays (row ∷ rows) zero = refl
count_stays (row ∷ rows) (suc index) =
    let rest = count_stays rows index in
    elim (slice_get rows index) as (λ o. length (with_moved_on rows index o) ≡ length rows
    → length (with_moved_on (row ∷ rows) (suc index) o) ≡ suc (length rows)) [
      | None ↦ λ e. refl
      | Some moved ↦ λ e. ap (λ n. suc n) e
    ] rest

pub moved_in_place : (rows : List AnswerRow) (index : ℕ) (row : AnswerRow) → index < length rows → row ≡ slice_index_or rows index row
    → rows_moved_on rows index ≡ slice_set rows index (moved_on row)
moved_in_place [] index row within is = absurd (omega arith)
moved_in_place (x ∷ rows) zero row within is = rw is refl
moved_in_place (x ∷ rows) (suc index) row within is =
    let rest = moved_in_place rows index row (omega arith) is in
    elim (slice_get rows index) as (λ o. with_moved_on rows index o ≡ slice_set rows index (moved_on row)
    → with_moved_on (x ∷ rows) (suc index) o ≡ x ∷ slice_set rows index (moved_on row)) [
      | None ↦ λ e. ap (λ ys. x ∷ ys) e
      | Some moved ↦ λ e. ap (λ ys. x ∷ ys) e
    ] rest

pub moved_nowhere : (rows : List AnswerRow) (index : ℕ) → length rows ≤ index → rows_moved_on rows index ≡ rows
moved_nowhere [] index past = refl
moved_nowhere (row ∷ rows) zero past = absurd (omega arith)
moved_nowhere (row ∷ rows) (suc index) past =
    let rest = moved_nowhere rows index (omega arith) in
    elim (slice_get rows index) as (λ o. with_moved_on rows index o ≡ rows → with_moved_on (row ∷ rows) (suc index) o ≡ row ∷ rows) [
      | None ↦ λ e. refl
      | Some moved ↦ λ e. ap (λ ys. row ∷ ys) e
    ] rest
