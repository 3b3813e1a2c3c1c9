-- What a binary search finds in rows that rise by their key.
use Rattle.std.proofs.Common.{◌≡◌, ℕ, zero, suc, ◌<◌, ◌≤◌, ◌==◌, Bool, true, false, cond, nat_lt, List, [], ◌∷◌, length, refl, ap, sym, ◌∙◌, arith, Some, None, Result, Ok, Err, slice_index_or, slice_get, eq-eqb}
use Rattle.std.specs.Prelude.{position, find, option_and_then}
use Rattle.std.specs.Result.{result_ok}
use Rattle.std.specs.List.{position_or_len, list_all}
use Rattle.std.specs.List.Sorted.{IsSearchInRange, IsBinarySearchResult, IsNonDecreasingBy}
use Rattle.std.specs.Ordering.{nat_cmp, ordering_index}
use Rattle.std.proofs.lemmas.Cmp.{ranked}
use Rattle.std.proofs.lemmas.Bool.{lt-ltb, ltb-true, ltb-false}
use Rattle.std.proofs.lemmas.Bool.Decides.{nat_tests}
use Rattle.std.proofs.lemmas.List.Folds.{find_at}
use Rattle.std.proofs.lemmas.List.Sums.{AllPass-from_list_all, position_or_len_is}
use Rattle.std.proofs.lemmas.List.Quantifiers.{position-Some}
use Rattle.diag_setup.specs.Rows.{is_rising}
use Rattle.diag_setup.proofs.SetupLemmas.{both_true}

module _ {X : Type 0} (key : X → ℕ) where
  -- each key is below those after it
  below : (xs : List X) → is_rising key xs ≡ true → (i j : ℕ) (d : X) → i < j → j < length xs → key (slice_index_or xs i d) < key (slice_index_or xs j d)
  below [] h i j d lt in_range = absurd (omega arith)
  below (x ∷ xs) h i zero d lt in_range = absurd (omega arith)
  below (x ∷ xs) h zero (suc j) d lt in_range =
      let parts = both_true (list_all (λ y. nat_lt (key x) (key y)) xs) (is_rising key xs) h in
      ltb-true (key x) (key (slice_index_or xs j d)) (AllPass-from_list_all (λ y. nat_lt (key x) (key y)) xs parts.0 j d (omega arith))
  below (x ∷ xs) h (suc i) (suc j) d lt in_range =
      let parts = both_true (list_all (λ y. nat_lt (key x) (key y)) xs) (is_rising key xs) h in
      below xs parts.1 i j d (omega arith) (omega arith)

  -- the comparisons with a key rise along the rows
  comparisons_rise : (xs : List X) → is_rising key xs ≡ true → (k : ℕ) → IsNonDecreasingBy (λ y. ordering_index (nat_cmp (key y) k)) xs
  comparisons_rise xs h k i j d le in_range =
      let rise : i < j → key (slice_index_or xs i d) < key (slice_index_or xs j d) = λ lt. below xs h i j d lt in_range in
      elim (nat_lt i j) as (λ b. nat_lt i j ≡ b
      → ordering_index (nat_cmp (key (slice_index_or xs i d)) k) ≤ ordering_index (nat_cmp (key (slice_index_or xs j d)) k)) [
        | true ↦ λ e. let lt = rise (ltb-true i j e) in grind (arith, nat_tests)
        | false ↦ λ e. let same : i ≡ j = let past = ltb-false i j e in omega arith in rw same (omega arith)
      ] refl

  -- the row at i is the first of its key
  placed_at : (xs : List X) → is_rising key xs ≡ true → (k i : ℕ) → i < length xs → ((d : X) → key (slice_index_or xs i d) ≡ k)
      → position (λ y. key y == k) xs ≡ Some i
  placed_at [] h k i in_range here = absurd (omega arith)
  placed_at (x ∷ xs) h k i in_range here =
      let first : position_or_len (λ y. key y == k) (x ∷ xs) ≡ i =
      position_or_len_is (λ y. key y == k) (x ∷ xs) i x (omega arith)
      (λ j lt. let less = below (x ∷ xs) h j i x lt in_range in let same = here x in grind (arith, nat_tests))
      (λ lt. eq-eqb (key (slice_index_or (x ∷ xs) i x)) k (here x)) in
      rw (first, lt-ltb i (length (x ∷ xs)) in_range) refl

  -- no row has the key
  placed_nowhere : (xs : List X) → (k i : ℕ) → ((j : ℕ) (d : X) → j < i → j < length xs → key (slice_index_or xs j d) < k)
      → ((j : ℕ) (d : X) → i ≤ j → j < length xs → k < key (slice_index_or xs j d)) → position (λ y. key y == k) xs ≡ None
  placed_nowhere [] k i less more = refl
  placed_nowhere (x ∷ xs) k i less more =
      let none : position_or_len (λ y. key y == k) (x ∷ xs) ≡ length (x ∷ xs) =
      position_or_len_is (λ y. key y == k) (x ∷ xs) (length (x ∷ xs)) x (omega arith) (λ j lt. grind (arith, nat_tests, less j x, more j x))
      (λ lt. absurd (omega arith)) in
      rw none (let not_below : nat_lt (length (x ∷ xs)) (length (x ∷ xs)) ≡ false = grind (arith, nat_tests) in rw not_below refl)

  -- a binary search ends at the row of the key, or finds none
  pub placed : (xs : List X) → is_rising key xs ≡ true → (k : ℕ) (r : Result ℕ ℕ) → IsSearchInRange r (length xs)
      → IsBinarySearchResult (λ y. nat_cmp (key y) k) xs r → result_ok r ≡ position (λ y. key y == k) xs
  placed xs h k (Ok i) in_range equal = sym (placed_at xs h k i in_range (λ d. ranked _ k _ (sym (equal d))))
  placed xs h k (Err i) in_range parted =
      let parts = parted (comparisons_rise xs h k) in
      sym (placed_nowhere xs k i (λ j d lt below. ranked _ k _ (sym (parts.0 j d (omega arith) lt)))
      (λ j d le below. ranked _ k _ (sym (parts.1 j d le below))))

-- the row that is found is the one at its index
pub find_by_place : {X : Type 0} (p : X → Bool) (xs : List X) → find p xs ≡ option_and_then (slice_get xs) (position p xs)
find_by_place p xs =
    find_at p xs ∙ elim (nat_lt (position_or_len p xs) (length xs))
    as (λ b. nat_lt (position_or_len p xs) (length xs) ≡ b
    → slice_get xs (position_or_len p xs) ≡ option_and_then (slice_get xs) (cond b (Some (position_or_len p xs)) None)) [
      | true ↦ λ e. refl
      | false ↦ λ e. past_end xs (position_or_len p xs) (ltb-false (position_or_len p xs) (length xs) e)
    ] refl
  where
    past_end : {X : Type 0} (xs : List X) (i : ℕ) → length xs ≤ i → slice_get xs i ≡ None
    past_end [] i h = refl
    past_end (x ∷ xs) zero h = absurd (omega arith)
    past_end (x ∷ xs) (suc i) h = past_end xs i (omega arith)

got : {X : Type 0} (xs : List X) (i : ℕ) (d : X) → i < length xs → slice_get xs i ≡ Some (slice_index_or xs i d)
got [] i d h = absurd (omega arith)
got (x ∷ xs) zero d h = refl
got (x ∷ xs) (suc i) d h = got xs i d (omega arith)

pub found_at : {X : Type 0} (p : X → Bool) (xs : List X) (i : ℕ) (x : X) → position p xs ≡ Some i → x ≡ slice_index_or xs i x → Some x ≡ find p xs
found_at p xs i x found same =
    let here = position-Some p xs i x found in
    sym (find_by_place p xs ∙ ap (option_and_then (slice_get xs)) found ∙ got xs i x here.0 ∙ ap (λ y. Some y) (sym same))

pub found_nowhere : {X : Type 0} (p : X → Bool) (xs : List X) → position p xs ≡ None → None ≡ find p xs
found_nowhere p xs found = sym (find_by_place p xs ∙ ap (option_and_then (slice_get xs)) found)
