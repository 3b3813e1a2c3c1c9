-- Rows of which no two have one key have one list in rising order.
use Rattle.std.proofs.Common.{◌≡◌, ℕ, zero, suc, ◌+◌, ◌<◌, ◌≤◌, ◌||◌, ◌==◌, Bool, true, false, cond, nat_le, nat_lt, List, [], ◌∷◌, length, map, take, drop, get_or, ◌-◌, ◌≢◌, refl, ap, sym, ◌∙◌, arith, slice_index_or, eq-eqb, ◌⊎◌, inl, inr}
use Rattle.std.specs.List.{All, Contains, sum_by, list_all}
use Rattle.std.specs.List.Sorted.{IsPermutation, IsNonDecreasingBy}
use Rattle.std.proofs.lemmas.List.{take_all}
use Rattle.std.proofs.lemmas.List.Elements.{All-cons, All-nil, All-weaker, All-contains}
use Rattle.std.proofs.lemmas.List.Sorted.{IsPermutation-refl, IsPermutation-sym, IsPermutation-cons, IsPermutation-trans, IsPermutation-middle, All-permutation, Contains-permutation, sum_by-IsPermutation}
use Rattle.std.proofs.lemmas.List.Sums.{sum_by-cons}
use Rattle.std.proofs.lemmas.Bool.{lt-ltb, eqb-true, leb-true, leb-false, or_parts}
use Rattle.diag_setup.specs.Rows.{has_key, has_repeat, insert_in_order, in_order, is_rising}
use Rattle.diag_setup.specs.Setup.{itself}

same_bool : (a b : Bool) → (a ≡ false → b ≡ false) → (b ≡ false → a ≡ false) → a ≡ b
same_bool true true to from = refl
same_bool true false to from = from refl
same_bool false true to from = sym (to refl)
same_bool false false to from = refl

Contains-cons : {X : Type 0} (x y : X) (ys : List X) → Contains (y ∷ ys) x → (y ≡ x) ⊎ Contains ys x
Contains-cons x y ys (zero, below, e) = inl e
Contains-cons x y ys (suc k, below, e) = inr (k, omega arith, e)

Contains-head : {X : Type 0} (x : X) (xs : List X) → Contains (x ∷ xs) x
Contains-head x xs = (0, omega arith, refl)

Contains-tail : {X : Type 0} (x y : X) (ys : List X) → Contains ys x → Contains (y ∷ ys) x
Contains-tail x y ys (k, below, e) = (suc k, omega arith, e)

module _ {X : Type 0} (key : X → ℕ) where
  abbrev one_of : ℕ → X → ℕ
  one_of k x = cond (key x == k) 1 0

  -- each key is below those after it
  abbrev Strict : List X → Type 0
  Strict [] = Unit {0}
  Strict (x ∷ xs) = All (λ y. key x < key y) xs × Strict xs

  -- no key is above one after it
  abbrev Rises : List X → Type 0
  Rises [] = Unit {0}
  Rises (x ∷ xs) = All (λ y. key x ≤ key y) xs × Rises xs

  -- two lists in strict order with the same rows are one
  unique : (xs ys : List X) → Strict xs → Strict ys → ((z : X) → Contains xs z → Contains ys z) → ((z : X) → Contains ys z → Contains xs z) → xs ≡ ys
  unique [] [] sx sy to from = refl
  unique [] (y ∷ ys) sx sy to from = let found = from y (Contains-head y ys) in absurd (omega (arith, found.1))
  unique (x ∷ xs) [] sx sy to from = let found = to x (Contains-head x xs) in absurd (omega (arith, found.1))
  unique (x ∷ xs) (y ∷ ys) sx sy to from =
      let same : y ≡ x =
      elim (Contains-cons x y ys (to x (Contains-head x xs))) [
        | inl e ↦ e
        | inr in_ys ↦ elim (Contains-cons y x xs (from y (Contains-head y ys))) [
          | inl e ↦ sym e
          | inr in_xs ↦
              let below : key y < key x = All-contains (λ z. key y < key z) ys x sy.0 in_ys in
              let above : key x < key y = All-contains (λ z. key x < key z) xs y sx.0 in_xs in
              absurd (omega arith)
        ]
      ] in
      let keys : key y ≡ key x = ap key same in
      let go : (z : X) → Contains xs z → Contains ys z = λ z in_xs.
      elim (Contains-cons z y ys (to z (Contains-tail z x xs in_xs))) [
        | inl e ↦
            let above : key x < key z = All-contains (λ w. key x < key w) xs z sx.0 in_xs in
            let equal : key y ≡ key z = ap key e in
            absurd (omega arith)
        | inr in_ys ↦ in_ys
      ] in
      let back : (z : X) → Contains ys z → Contains xs z = λ z in_ys.
      elim (Contains-cons z x xs (from z (Contains-tail z y ys in_ys))) [
        | inl e ↦
            let above : key y < key z = All-contains (λ w. key y < key w) ys z sy.0 in_ys in
            let equal : key x ≡ key z = ap key e in
            absurd (omega arith)
        | inr in_xs ↦ in_xs
      ] in
      ap (λ z. z ∷ xs) (sym same) ∙ ap (λ zs. y ∷ zs) (unique xs ys sx.1 sy.1 go back)

  insert-moves : (x : X) (ys : List X) → IsPermutation (x ∷ ys) (insert_in_order key x ys)
  insert-moves x [] = IsPermutation-refl (x ∷ [])
  insert-moves x (y ∷ ys) =
      let rest = insert-moves x ys in
      elim (nat_le (key x) (key y)) as (λ b. IsPermutation (x ∷ y ∷ ys) (cond b (x ∷ y ∷ ys) (y ∷ insert_in_order key x ys))) [
        | true ↦ IsPermutation-refl (x ∷ y ∷ ys)
        | false ↦ IsPermutation-trans (x ∷ y ∷ ys) (y ∷ x ∷ ys) (y ∷ insert_in_order key x ys)
            (IsPermutation-sym (y ∷ x ∷ ys) (x ∷ y ∷ ys) (IsPermutation-middle (y ∷ []) x ys))
            (IsPermutation-cons y (x ∷ ys) (insert_in_order key x ys) rest)
      ]

  pub in_order-moves : (xs : List X) → IsPermutation xs (in_order key xs)
  in_order-moves [] = IsPermutation-refl []
  in_order-moves (x ∷ xs) =
      IsPermutation-trans (x ∷ xs) (x ∷ in_order key xs) (in_order key (x ∷ xs))
      (IsPermutation-cons x xs (in_order key xs) (in_order-moves xs)) (insert-moves x (in_order key xs))

  insert-rises : (x : X) (ys : List X) → Rises ys → Rises (insert_in_order key x ys)
  insert-rises x [] r = (All-nil (λ y. key x ≤ key y), tt)
  insert-rises x (y ∷ ys) r =
      let rest = insert-rises x ys r.1 in
      elim (nat_le (key x) (key y)) as (λ b. nat_le (key x) (key y) ≡ b → Rises (cond b (x ∷ y ∷ ys) (y ∷ insert_in_order key x ys))) [
        | true ↦ λ e.
            let below : key x ≤ key y = grind arith in
            (All-cons (λ z. key x ≤ key z) y ys below (All-weaker (λ z. key y ≤ key z) (λ z. key x ≤ key z) (λ z h. omega arith) ys r.0), r)
        | false ↦ λ e.
            let above : key y ≤ key x = grind arith in
            (All-permutation (λ z. key y ≤ key z) (x ∷ ys) (insert_in_order key x ys) (insert-moves x ys) (All-cons (λ z. key y ≤ key z) x ys above r.0), rest)
      ] refl

  in_order-rises : (xs : List X) → Rises (in_order key xs)
  in_order-rises [] = tt
  in_order-rises (x ∷ xs) = insert-rises x (in_order key xs) (in_order-rises xs)

  non_decreasing-rises : (xs : List X) → IsNonDecreasingBy key xs → Rises xs
  non_decreasing-rises [] h = tt
  non_decreasing-rises (x ∷ xs) h =
      ((λ k d below. h 0 (suc k) d (omega arith) (omega arith)), non_decreasing-rises xs (λ i j d le below. h (suc i) (suc j) d (omega arith) (omega arith)))

  none-times : (k : ℕ) (xs : List X) → has_key key xs k ≡ false → sum_by (one_of k) xs ≡ 0
  none-times k [] h = refl
  none-times k (x ∷ xs) h =
      let rest = none-times k xs in
      let first = sum_by-cons (one_of k) x xs in
      elim (key x == k) as (λ b. (b || has_key key xs k) ≡ false → sum_by (one_of k) (x ∷ xs) ≡ cond b 1 0 + sum_by (one_of k) xs
      → sum_by (one_of k) (x ∷ xs) ≡ 0) [
        | true ↦ λ e is. cc
        | false ↦ λ e is. let zero_left = rest e in omega arith
      ] h first

  -- where no key repeats, each key comes once at most
  once : (xs : List X) → has_repeat key xs ≡ false → (k : ℕ) → sum_by (one_of k) xs ≤ 1
  once [] h k = omega arith
  once (x ∷ xs) h k =
      let none = none-times k xs in
      let rest = once xs in
      let parts = or_parts (has_key key xs (key x)) (has_repeat key xs) h in
      let first = sum_by-cons (one_of k) x xs in
      elim (key x == k) as (λ b. (key x == k) ≡ b → sum_by (one_of k) (x ∷ xs) ≡ cond b 1 0 + sum_by (one_of k) xs → sum_by (one_of k) (x ∷ xs) ≤ 1) [
        | true ↦ λ e is. let same : has_key key xs (key x) ≡ has_key key xs k = ap (has_key key xs) (eqb-true (key x) k e) in let zero_left =
            none (sym same ∙ parts.0) in omega arith
        | false ↦ λ e is. let one_left = rest parts.1 k in omega arith
      ] refl first

  comes : (k : ℕ) (xs : List X) (j : ℕ) (d : X) → j < length xs → key (slice_index_or xs j d) ≡ k → 1 ≤ sum_by (one_of k) xs
  comes k [] j d below e = absurd (omega arith)
  comes k (x ∷ xs) zero d below e =
      let first = sum_by-cons (one_of k) x xs in
      let here : one_of k x ≡ 1 = rw (eq-eqb (key x) k e) refl in
      omega arith
  comes k (x ∷ xs) (suc j) d below e =
      let first = sum_by-cons (one_of k) x xs in
      let rest = comes k xs j d (omega arith) e in
      omega arith

  strict : (xs : List X) → Rises xs → ((k : ℕ) → sum_by (one_of k) xs ≤ 1) → Strict xs
  strict [] r c = tt
  strict (x ∷ xs) r c =
      let tail : (k : ℕ) → sum_by (one_of k) xs ≤ 1 = λ k. let first = sum_by-cons (one_of k) x xs in let whole = c k in omega arith in
      let above : All (λ y. key x < key y) xs = λ j d below.
      let rises : key x ≤ key (slice_index_or xs j d) = r.0 j d below in
      let first = sum_by-cons (one_of (key x)) x xs in
      let whole = c (key x) in
      let here : one_of (key x) x ≡ 1 = rw (eq-eqb (key x) (key x) refl) refl in
      let k = key (slice_index_or xs j d) in
      elim (nat_le k (key x)) as (λ b. nat_le k (key x) ≡ b → key x < k) [
        | true ↦ λ e.
            let no_more : k ≤ key x = leb-true k (key x) e in
            let equal : k ≡ key x = omega arith in
            let there : 1 ≤ sum_by (one_of (key x)) xs = comes (key x) xs j d below equal in
            absurd (omega arith)
        | false ↦ λ e. leb-false k (key x) e
      ] refl in
      (above, strict xs r.1 tail)

  strict_where_once : (xs ys : List X) → has_repeat key xs ≡ false → IsPermutation xs ys → Rises ys → Strict ys
  strict_where_once xs ys h moves r =
      strict ys r (λ k. let same = sum_by-IsPermutation (one_of k) xs ys moves in let least = once xs h k in omega arith)

  -- what a sort makes of rows of which no two have one key
  pub sort-gives : (xs ys : List X) → has_repeat key xs ≡ false → IsPermutation xs ys → IsNonDecreasingBy key ys → ys ≡ in_order key xs
  sort-gives xs ys h moves up =
      let others = in_order-moves xs in
      let between = IsPermutation-trans ys xs (in_order key xs) (IsPermutation-sym xs ys moves) others in
      let back = IsPermutation-sym ys (in_order key xs) between in
      unique ys (in_order key xs)
      (strict_where_once xs ys h moves (non_decreasing-rises ys up))
      (strict_where_once xs (in_order key xs) h others (in_order-rises xs))
      (λ z. Contains-permutation ys (in_order key xs) z between)
      (λ z. Contains-permutation (in_order key xs) ys z back)

  above-no_key : (k : ℕ) (xs : List X) → All (λ y. k < key y) xs → has_key key xs k ≡ false
  above-no_key k [] h = refl
  above-no_key k (x ∷ xs) h =
      let first : k < key x = h 0 x (omega arith) in
      let rest = above-no_key k xs (λ j d below. h (suc j) d (omega arith)) in
      elim (key x == k) as (λ b. (key x == k) ≡ b → (b || has_key key xs k) ≡ false) [
        | true ↦ λ e. let same = eqb-true (key x) k e in absurd (omega arith)
        | false ↦ λ e. rest
      ] refl

  above-all : (k : ℕ) (xs : List X) → All (λ y. k < key y) xs → list_all (λ y. nat_lt k (key y)) xs ≡ true
  above-all k [] h = refl
  above-all k (x ∷ xs) h = rw (lt-ltb k (key x) (h 0 x (omega arith))) (above-all k xs (λ j d below. h (suc j) d (omega arith)))

  strict-is_rising : (xs : List X) → Strict xs → is_rising key xs ≡ true
  strict-is_rising [] s = refl
  strict-is_rising (x ∷ xs) s = rw (above-all (key x) xs s.0) (strict-is_rising xs s.1)

  -- a key that comes never isn't there
  absent : (k : ℕ) (xs : List X) → sum_by (one_of k) xs ≡ 0 → has_key key xs k ≡ false
  absent k [] h = refl
  absent k (x ∷ xs) h =
      let first = sum_by-cons (one_of k) x xs in
      let rest = absent k xs in
      elim (key x == k) as (λ b. sum_by (one_of k) (x ∷ xs) ≡ cond b 1 0 + sum_by (one_of k) xs → (b || has_key key xs k) ≡ false) [
        | true ↦ λ is. absurd (omega arith)
        | false ↦ λ is. let none : sum_by (one_of k) xs ≡ 0 = omega arith in rest none
      ] first

  -- where each key comes once at most, none repeats
  no_repeat : (xs : List X) → ((k : ℕ) → sum_by (one_of k) xs ≤ 1) → has_repeat key xs ≡ false
  no_repeat [] c = refl
  no_repeat (x ∷ xs) c =
      let tail : (k : ℕ) → sum_by (one_of k) xs ≤ 1 = λ k. let first = sum_by-cons (one_of k) x xs in let whole = c k in omega arith in
      let first = sum_by-cons (one_of (key x)) x xs in
      let whole = c (key x) in
      let here : one_of (key x) x ≡ 1 = rw (eq-eqb (key x) (key x) refl) refl in
      let none : sum_by (one_of (key x)) xs ≡ 0 = omega arith in
      rw (absent (key x) xs none, no_repeat xs tail) refl

  no_repeat-moves : (xs ys : List X) → IsPermutation xs ys → has_repeat key xs ≡ false → has_repeat key ys ≡ false
  no_repeat-moves xs ys moves h = no_repeat ys (λ k. let same = sum_by-IsPermutation (one_of k) xs ys moves in let least = once xs h k in omega arith)

  pub has_repeat-moves : (xs ys : List X) → IsPermutation xs ys → has_repeat key ys ≡ has_repeat key xs
  has_repeat-moves xs ys moves =
      same_bool (has_repeat key ys) (has_repeat key xs) (no_repeat-moves ys xs (IsPermutation-sym xs ys moves)) (no_repeat-moves xs ys moves)

  has_key-map : (k : ℕ) (xs : List X) → has_key itself (map key xs) k ≡ has_key key xs k
  has_key-map k [] = refl
  has_key-map k (x ∷ xs) = ap (λ b. (key x == k) || b) (has_key-map k xs)

  pub has_repeat-map : (xs : List X) → has_repeat itself (map key xs) ≡ has_repeat key xs
  has_repeat-map [] = refl
  has_repeat-map (x ∷ xs) = rw (has_key-map (key x) xs, has_repeat-map xs) refl

  pub in_order-no_repeat : (xs : List X) → has_repeat key xs ≡ false → has_repeat key (in_order key xs) ≡ false
  in_order-no_repeat xs h = no_repeat-moves xs (in_order key xs) (in_order-moves xs) h

  pub in_order-is_rising : (xs : List X) → has_repeat key xs ≡ false → is_rising key (in_order key xs) ≡ true
  in_order-is_rising xs h = strict-is_rising (in_order key xs) (strict_where_once xs (in_order key xs) h (in_order-moves xs) (in_order-rises xs))

-- ---- numbers that don't fall

-- all but the first, as a pattern gives them
abbrev Tail : List ℕ → List ℕ
Tail xs = take (length xs - 1) (drop 1 xs)

first_below : (x y : ℕ) (ys : List ℕ) → IsNonDecreasingBy itself (x ∷ y ∷ ys) → x < y → has_repeat itself (x ∷ y ∷ ys) ≡ has_repeat itself (y ∷ ys)
first_below x y ys rises less =
    let above : All (λ z. x < z) (y ∷ ys) = λ j d below. let next = rises 1 (suc j) d (omega arith) (omega arith) in omega arith in
    rw (above-no_key itself x (y ∷ ys) above) refl

-- where the first differs from the one behind it, the others decide
pub others_decide : (xs : List ℕ) → IsNonDecreasingBy itself xs → 1 ≤ length (Tail xs) → get_or xs 0 0 ≢ get_or (Tail xs) 0 0
    → IsNonDecreasingBy itself (Tail xs) × (has_repeat itself (Tail xs) ≡ has_repeat itself xs)
others_decide [] rises some differ = absurd (omega arith)
others_decide (x ∷ []) rises some differ = absurd (omega arith)
others_decide (x ∷ y ∷ ys) rises some differ =
    let same : Tail (x ∷ y ∷ ys) ≡ y ∷ ys = take_all (length (x ∷ y ∷ ys) - 1) (y ∷ ys) (omega arith) in
    let apart : x ≢ y = rw same at differ in
    let up : x ≤ y = rises 0 1 0 (omega arith) (omega arith) in
    rw same ((λ i j d le below. rises (suc i) (suc j) d (omega arith) (omega arith)), sym (first_below x y ys rises (omega arith)))
