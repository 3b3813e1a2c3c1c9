-- What a search for a row's index says of a change of that row.
use Rattle.std.proofs.Common.{◌≡◌, ℕ, zero, suc, ◌+◌, ◌<◌, ◌≤◌, Bool, true, false, cond, not, ◌&&◌, sym, nat_lt, List, [], ◌∷◌, length, refl, ap, ◌∙◌, arith, Some, None, slice_index_or, slice_set, ◌++◌, take, drop, add-one, length-append}
use Rattle.std.proofs.lemmas.List.{length-map, take_all}
use Rattle.std.proofs.Math.Seq.{take-append_seam}
use Rattle.std.specs.Prelude.{position, map}
use Rattle.std.proofs.lemmas.Grind.{common_steps}
use Rattle.std.specs.List.{position_or_len, list_all}
use Rattle.std.proofs.lemmas.List.Quantifiers.{position-Some}
use Rattle.std.proofs.lemmas.Bool.{ltb-false}
use Rattle.std.proofs.lemmas.List.Folds.{list_all-map}
use Rattle.diag_store.specs.Rows.{change_first}
use Rattle.diag_setup.specs.Rows.{is_rising}

module _ {X : Type 0} (test : X → Bool) (change : X → X) where
  -- the first row that passes is at i
  change_here : (xs : List X) (i : ℕ) (x : X) → i < length xs → test (slice_index_or xs i x) ≡ true
      → ((k : ℕ) → k < i → test (slice_index_or xs k x) ≡ false)
      → change_first test change xs ≡ slice_set xs i (change (slice_index_or xs i x))
  change_here [] i x h passes before = absurd (omega arith)
  change_here (y ∷ ys) zero x h passes before = rw passes refl
  change_here (y ∷ ys) (suc i) x h passes before =
      rw (before 0 (omega arith)) (ap (λ z. y ∷ z) (change_here ys i x (omega arith) passes (λ k below. before (suc k) (omega arith))))

  pub change_first-at : (xs : List X) (i : ℕ) (x : X) → position test xs ≡ Some i → slice_index_or xs i x ≡ x
      → change_first test change xs ≡ slice_set xs i (change x)
  change_first-at xs i x found same =
      let here = position-Some test xs i x found in
      change_here xs i x here.0 here.1 here.2 ∙ ap (λ z. slice_set xs i (change z)) same

  -- the same for rows of numbers alone, which an index reads with a default
  pub change_first-or : (xs : List X) (i : ℕ) (d : X) → position test xs ≡ Some i
      → change_first test change xs ≡ slice_set xs i (change (slice_index_or xs i d))
  change_first-or xs i d found = let here = position-Some test xs i d found in change_here xs i d here.0 here.1 here.2

  -- where no row passes, nothing changes
  change_none : (xs : List X) → length xs ≤ position_or_len test xs → change_first test change xs ≡ xs
  change_none [] h = refl
  change_none (y ∷ ys) h =
      let rest = change_none ys in
      elim (test y) as (λ b. suc (length ys) ≤ cond (not b) (1 + position_or_len test ys) 0
      → cond b (change y ∷ ys) (y ∷ change_first test change ys) ≡ y ∷ ys) [
        | true ↦ λ p. absurd (omega arith)
        | false ↦ λ p. ap (λ z. y ∷ z) (rest (omega arith))
      ] h

  pub change_first-nowhere : (xs : List X) → position test xs ≡ None → change_first test change xs ≡ xs
  change_first-nowhere xs e =
      elim (nat_lt (position_or_len test xs) (length xs))
      as (λ b. nat_lt (position_or_len test xs) (length xs) ≡ b → cond b (Some (position_or_len test xs)) None ≡ None → change_first test change xs ≡ xs) [
        | true ↦ λ below found. cc
        | false ↦ λ above found. change_none xs (omega (arith, ltb-false (position_or_len test xs) (length xs) above))
      ] refl e

pub ruleset change_at = (change_first-at, change_first-nowhere)

-- a change of every row in turn: the rows up to i are changed, and now row i is
map_here : {X : Type 0} (f : X → X) (xs : List X) (i : ℕ) (x : X) → i < length xs
    → slice_set (map f (take i xs) ++ drop i xs) i (f (slice_index_or (map f (take i xs) ++ drop i xs) i x)) ≡ map f (take (suc i) xs) ++ drop (suc i) xs
map_here f [] i x h = absurd (omega arith)
map_here f (y ∷ ys) zero x h = refl
map_here f (y ∷ ys) (suc i) x h = ap (λ z. f y ∷ z) (map_here f ys i x (omega arith))

pub map_step : {X : Type 0} (f : X → X) (xs ys : List X) (i : ℕ) (x : X) → ys ≡ map f (take i xs) ++ drop i xs → i < length ys → x ≡ slice_index_or ys i x
    → slice_set ys i (f x) ≡ map f (take (i + 1) xs) ++ drop (i + 1) xs
map_step f xs ys i x e below same =
    let len : length ys ≡ length xs = ap length e ∙ simp (length-append, length-map) (grind (arith, common_steps)) in
    rw (add-one, same, e) (map_here f xs i x (omega arith))

pub map_step-or : {X : Type 0} (f : X → X) (xs ys : List X) (i : ℕ) (d : X) → ys ≡ map f (take i xs) ++ drop i xs → i < length ys
    → slice_set ys i (f (slice_index_or ys i d)) ≡ map f (take (i + 1) xs) ++ drop (i + 1) xs
map_step-or f xs ys i d e below =
    let len : length ys ≡ length xs = ap length e ∙ simp (length-append, length-map) (grind (arith, common_steps)) in
    rw (add-one, e) (map_here f xs i d (omega arith))

-- rows with the same keys rise alike
rising_by_keys : {X : Type 0} (key : X → ℕ) (xs : List X) → is_rising key xs ≡ is_rising (λ n. n) (map key xs)
rising_by_keys key [] = refl
rising_by_keys key (x ∷ xs) = rw (list_all-map (λ n. nat_lt (key x) n) key xs)
    (ap (λ b. list_all (λ y. nat_lt (key x) (key y)) xs && b) (rising_by_keys key xs))

same_keys-rise : {X Y : Type 0} (key : X → ℕ) (other : Y → ℕ) (xs : List X) (ys : List Y) → map key xs ≡ map other ys → is_rising other ys ≡ true
    → is_rising key xs ≡ true
same_keys-rise key other xs ys same h = rising_by_keys key xs ∙ ap (is_rising (λ n. n)) same ∙ sym (rising_by_keys other ys) ∙ h

change_first-keys : {X : Type 0} (key : X → ℕ) (test : X → Bool) (change : X → X) → ((x : X) → key (change x) ≡ key x) → (xs : List X)
    → map key (change_first test change xs) ≡ map key xs
change_first-keys key test change same [] = refl
change_first-keys key test change same (x ∷ xs) =
    let rest = change_first-keys key test change same xs in
    elim (test x) as (λ b. map key (cond b (change x ∷ xs) (x ∷ change_first test change xs)) ≡ key x ∷ map key xs) [
      | true ↦ ap (λ k. k ∷ map key xs) (same x)
      | false ↦ ap (λ ks. key x ∷ ks) rest
    ]

map-keys : {X Y : Type 0} (key : X → ℕ) (other : Y → ℕ) (f : Y → X) → ((y : Y) → key (f y) ≡ other y) → (ys : List Y) → map key (map f ys) ≡ map other ys
map-keys key other f same [] = refl
map-keys key other f same (y ∷ ys) = rw (same y) (ap (λ ks. other y ∷ ks) (map-keys key other f same ys))

pub change_first_rises : {X : Type 0} (key : X → ℕ) (test : X → Bool) (change : X → X) → ((x : X) → key (change x) ≡ key x) → (xs : List X)
    → is_rising key xs ≡ true → is_rising key (change_first test change xs) ≡ true
change_first_rises key test change same xs h = same_keys-rise key key (change_first test change xs) xs (change_first-keys key test change same xs) h

pub map_rises : {X Y : Type 0} (key : X → ℕ) (other : Y → ℕ) (f : Y → X) → ((y : Y) → key (f y) ≡ other y) → (ys : List Y) → is_rising other ys ≡ true
    → is_rising key (map f ys) ≡ true
map_rises key other f same ys h = same_keys-rise key other (map f ys) ys (map-keys key other f same ys) h

-- what a `Vec` holds after a slice of all its items was written
pub refilled : {X : Type 0} (xs ys : List X) (n : ℕ) → n ≡ length xs → take n (xs ++ drop (length xs) ys) ≡ xs
refilled xs ys n same = rw same (take-append_seam xs (drop (length xs) ys))

-- what a loop that pushes f of each row has made at its end
made_of_all : {X Y : Type 0} (f : X → Y) (xs : List X) (ys : List Y) (n : ℕ) → ys ≡ map f (take n xs) → length xs ≤ n → ys ≡ map f xs
made_of_all f xs ys n e h = e ∙ ap (map f) (take_all n xs h)

-- rows that a loop has made of rows that rise, of which there are few, are few and rise
pub made_rise : {X Y : Type 0} (key : Y → ℕ) (other : X → ℕ) (f : X → Y) → ((x : X) → key (f x) ≡ other x) → (most : ℕ) (xs : List X) (ys : List Y) (n : ℕ)
    → ys ≡ map f (take n xs) → length xs ≤ n → length xs ≤ most → is_rising other xs ≡ true → (length ys ≤ most) × (is_rising key ys ≡ true)
made_rise key other f same most xs ys n e h few rise =
    let all : ys ≡ map f xs = made_of_all f xs ys n e h in
    let count : length ys ≡ length xs = ap length all ∙ simp length-map in
    (omega arith, rw all (map_rises key other f same xs rise))
