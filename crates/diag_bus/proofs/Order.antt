-- A stable sort gives the rows in order, those of one key as they stood.
use Rattle.std.proofs.Common.{◌≡◌, ◌≤◌, ◌<◌, ℕ, zero, suc, Bool, true, false, cond, inl, inr, List, [], ◌∷◌, length, refl, ap, ap₂, sym, ◌∙◌, arith, get_or}
use Rattle.std.proofs.lemmas.Bool.{eq-eqb, ne_eqb, cases_order}
use Rattle.std.proofs.lemmas.Bool.Decides.{nat_tests}
use Rattle.std.specs.Prelude.{◌==◌, ◌&&◌, not, filter, nat_le}
use Rattle.std.specs.List.Sorted.{IsNonDecreasingBy, IsStableByKey}
use Rattle.std.specs.Ordering.{is_lt, nat_cmp}
use Rattle.std.specs.Cmp.{nat_cmp_is}
use Rattle.std.specs.declared.cmp.Ordering.{Ordering}
use Rattle.std.specs.declared.cmp.Ordering.TheVariants.{Less, Equal, Greater}
use Rattle.diag_setup.specs.Rows.{insert_in_order, in_order}

abbrev AtLeast : {X : Type 0} → (X → ℕ) → ℕ → List X → Type 0
AtLeast key n [] = Unit {0}
AtLeast key n (x ∷ xs) = (n ≤ key x) × AtLeast key n xs

abbrev Up : {X : Type 0} → (X → ℕ) → List X → Type 0
Up key [] = Unit {0}
Up key (x ∷ xs) = AtLeast key (key x) xs × Up key xs

-- the rows of one key
abbrev of : {X : Type 0} → (X → ℕ) → ℕ → List X → List X
of key k xs = filter (λ x. key x == k) xs

wider : {X : Type 0} (key : X → ℕ) (m n : ℕ) (xs : List X) → m ≤ n → AtLeast key n xs → AtLeast key m xs
wider key m n [] le h = tt
wider key m n (x ∷ xs) le h = (omega (arith, le, h.0), wider key m n xs le h.1)

put_least : {X : Type 0} (key : X → ℕ) (n : ℕ) (x : X) (ys : List X) → n ≤ key x → AtLeast key n ys → AtLeast key n (insert_in_order key x ys)
put_least key n x [] le h = (le, tt)
put_least key n x (y ∷ ys) le h = pick (nat_le (key x) (key y)) (put_least key n x ys le h.1)
  where
    pick : (b : Bool) → AtLeast key n (insert_in_order key x ys) → AtLeast key n (cond b (x ∷ y ∷ ys) (y ∷ insert_in_order key x ys))
    pick true rest = (le, h)
    pick false rest = (h.0, rest)

put_up : {X : Type 0} (key : X → ℕ) (x : X) (ys : List X) → Up key ys → Up key (insert_in_order key x ys)
put_up key x [] h = (tt, tt)
put_up key x (y ∷ ys) h = pick (nat_le (key x) (key y)) refl (put_up key x ys h.1)
  where
    pick : (b : Bool) → nat_le (key x) (key y) ≡ b → Up key (insert_in_order key x ys) → Up key (cond b (x ∷ y ∷ ys) (y ∷ insert_in_order key x ys))
    pick true e rest = (let le : key x ≤ key y = grind (arith, nat_tests) in ((le, wider key (key x) (key y) ys le h.0), h))
    pick false e rest = (let le : key y ≤ key x = grind (arith, nat_tests) in (put_least key (key y) x ys le h.0, rest))

in_order_up : {X : Type 0} (key : X → ℕ) (xs : List X) → Up key (in_order key xs)
in_order_up key [] = tt
in_order_up key (x ∷ xs) = put_up key x (in_order key xs) (in_order_up key xs)

put_of : {X : Type 0} (key : X → ℕ) (k : ℕ) (x : X) (ys : List X) → of key k (insert_in_order key x ys) ≡ of key k (x ∷ ys)
put_of key k x [] = refl
put_of key k x (y ∷ ys) = pick (nat_le (key x) (key y)) refl (put_of key k x ys)
  where
    swap : (a b : Bool) → (key x == k) ≡ a → (key y == k) ≡ b → nat_le (key x) (key y) ≡ false
        → cond b (y ∷ cond a (x ∷ of key k ys) (of key k ys)) (cond a (x ∷ of key k ys) (of key k ys))
        ≡ cond a (x ∷ cond b (y ∷ of key k ys) (of key k ys)) (cond b (y ∷ of key k ys) (of key k ys))
    swap true true p q e = absurd (grind (arith, nat_tests))
    swap true false p q e = refl
    swap false true p q e = refl
    swap false false p q e = refl

    pick : (b : Bool) → nat_le (key x) (key y) ≡ b → of key k (insert_in_order key x ys) ≡ of key k (x ∷ ys)
        → of key k (cond b (x ∷ y ∷ ys) (y ∷ insert_in_order key x ys)) ≡ of key k (x ∷ y ∷ ys)
    pick true e rest = refl
    pick false e rest = ap (λ w. cond (key y == k) (y ∷ w) w) rest ∙ swap (key x == k) (key y == k) refl refl e

in_order_of : {X : Type 0} (key : X → ℕ) (k : ℕ) (xs : List X) → of key k (in_order key xs) ≡ of key k xs
in_order_of key k [] = refl
in_order_of key k (x ∷ xs) = put_of key k x (in_order key xs) ∙ ap (λ w. cond (key x == k) (x ∷ w) w) (in_order_of key k xs)

-- a row of a key stands among rows that are at least n
some_least : {X : Type 0} (key : X → ℕ) (n k : ℕ) (zs : List X) (y : X) (rest : List X) → of key k zs ≡ y ∷ rest → AtLeast key n zs → n ≤ k
some_least key n k [] y rest e h = omega (arith, ap length e)
some_least key n k (z ∷ zs) y rest e h = pick (key z == k) refl e (λ e. some_least key n k zs y rest e h.1)
  where
    pick : (b : Bool) → (key z == k) ≡ b → cond b (z ∷ of key k zs) (of key k zs) ≡ y ∷ rest → (of key k zs ≡ y ∷ rest → n ≤ k) → n ≤ k
    pick true p e later = let is : key z ≡ k = grind (arith, nat_tests) in omega (arith, h.0, is)
    pick false p e later = later e

of_here : {X : Type 0} (key : X → ℕ) (y : X) (ys : List X) → of key (key y) (y ∷ ys) ≡ y ∷ of key (key y) ys
of_here key y ys = ap (λ b. cond b (y ∷ of key (key y) ys) (of key (key y) ys)) (eq-eqb (key y) (key y) refl)

-- the first of rows in order is no greater than any
first_least : {X : Type 0} (key : X → ℕ) (z : X) (zs : List X) (y : X) (rest : List X) → Up key (z ∷ zs) → of key (key y) (z ∷ zs) ≡ y ∷ rest → key z ≤ key y
first_least key z zs y rest h e = some_least key (key z) (key y) (z ∷ zs) y rest e (omega arith, h.0)

tails : {X : Type 0} (key : X → ℕ) (k : ℕ) (y z : X) (ys zs : List X) → y ≡ z → of key k (y ∷ ys) ≡ of key k (z ∷ zs) → of key k ys ≡ of key k zs
tails {X = X} key k y z ys zs same e = pick (key y == k) (e ∙ ap (λ (w : X). cond (key w == k) (w ∷ of key k zs) (of key k zs)) (sym same))
  where
    pick : (b : Bool) → cond b (y ∷ of key k ys) (of key k ys) ≡ cond b (y ∷ of key k zs) (of key k zs) → of key k ys ≡ of key k zs
    pick true e = cc
    pick false e = e

-- rows in order are known by the rows of each key
one_order : {X : Type 0} (key : X → ℕ) (ys zs : List X) → Up key ys → Up key zs → ((x : X) → of key (key x) ys ≡ of key (key x) zs) → ys ≡ zs
one_order {X = X} key [] [] u v e = refl
one_order {X = X} key [] (z ∷ zs) u v e = absurd (omega (arith, ap length (e z ∙ of_here key z zs)))
one_order {X = X} key (y ∷ ys) [] u v e = absurd (omega (arith, ap length (sym (of_here key y ys) ∙ e y)))
one_order {X = X} key (y ∷ ys) (z ∷ zs) u v e =
    let left = first_least key z zs y (of key (key y) ys) v (sym (e y) ∙ of_here key y ys) in
    let right = first_least key y ys z (of key (key z) zs) u (e z ∙ of_here key z zs) in
    let keys : key z ≡ key y = omega (arith, left, right) in
    let heads = sym (of_here key y ys) ∙ (e y ∙ (ap (λ k. of key k (z ∷ zs)) (sym keys) ∙ of_here key z zs)) in
    let same : y ≡ z = first y z (of key (key y) ys) (of key (key z) zs) heads in
    ap₂ (λ (x : X) (xs : List X). x ∷ xs) same (one_order key ys zs u.1 v.1 (λ x. tails key (key x) y z ys zs same (e x)))
  where
    first : (y z : X) (ys zs : List X) → y ∷ ys ≡ z ∷ zs → y ≡ z
    first y z ys zs e = cc

up_of : {X : Type 0} (key : X → ℕ) (ys : List X) → IsNonDecreasingBy key ys → Up key ys
up_of {X = X} key [] h = tt
up_of {X = X} key (y ∷ ys) h = (
  least_of key (key y) ys (λ j d less. h zero (suc j) d (omega arith) (omega (arith, less))),
  up_of key ys (λ i j d le less. h (suc i) (suc j) d (omega (arith, le)) (omega (arith, less))),
)
  where
    least_of : (key : X → ℕ) (n : ℕ) (xs : List X) → ((j : ℕ) (d : X) → j < length xs → n ≤ key (get_or xs j d)) → AtLeast key n xs
    least_of key n [] f = tt
    least_of key n (x ∷ xs) f = (f zero x (omega arith), least_of key n xs (λ j d less. f (suc j) d (omega (arith, less))))

-- what a stable sort gives
pub sorted_is : {X : Type 0} (key : X → ℕ) (xs ys : List X) → IsNonDecreasingBy key ys → ((x : X) → of key (key x) ys ≡ of key (key x) xs)
    → ys ≡ in_order key xs
sorted_is key xs ys up same = one_order key ys (in_order key xs) (up_of key ys up) (in_order_up key xs) (λ x. same x ∙ sym (in_order_of key (key x) xs))

-- rows that tie are those of one key
same_test : {X : Type 0} (p q : X → Bool) (xs : List X) → ((x : X) → p x ≡ q x) → filter p xs ≡ filter q xs
same_test p q [] e = refl
same_test p q (x ∷ xs) e = ap₂ (λ b w. cond b (x ∷ w) w) (e x) (same_test p q xs e)

abbrev tie : Ordering → Ordering → Bool
tie l r = not (is_lt l) && not (is_lt r)

tied : (a b : ℕ) → tie (nat_cmp a b) (nat_cmp b a) ≡ (b == a)
tied a b = elim (cases_order a b) [
  | inl e ↦ ap₂ tie (sym (nat_cmp_is a b Equal e)) (sym (nat_cmp_is b a Equal (sym e))) ∙ sym (eq-eqb b a (sym e))
  | inr o ↦ elim o [
    | inl less ↦ ap₂ tie (sym (nat_cmp_is a b Less less)) (sym (nat_cmp_is b a Greater less)) ∙ sym (ne_eqb b a (λ e. absurd (omega (arith, less, e))))
    | inr more ↦ ap₂ tie (sym (nat_cmp_is a b Greater more)) (sym (nat_cmp_is b a Less more)) ∙ sym (ne_eqb b a (λ e. absurd (omega (arith, more, e))))
  ]
]

pub stable_of : {X : Type 0} (key : X → ℕ) (xs ys : List X) → IsStableByKey key nat_cmp xs ys → (x : X) → of key (key x) ys ≡ of key (key x) xs
stable_of {X = X} key xs ys h x =
    let p = λ (y : X). not (is_lt (nat_cmp (key x) (key y))) && not (is_lt (nat_cmp (key y) (key x))) in
    let q = λ (y : X). key y == key x in
    let same = λ (y : X). tied (key x) (key y) in
    sym (same_test p q ys same) ∙ (h x ∙ same_test p q xs same)

-- rows that don't fall stand in order
pub in_order_is : {X : Type 0} (key : X → ℕ) (xs : List X) → IsNonDecreasingBy key xs → xs ≡ in_order key xs
in_order_is key xs up = sorted_is key xs xs up (λ x. refl)
