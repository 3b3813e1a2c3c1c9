-- The last of a list that has a property, changed; and lists of which some elements are kept.
use Rattle.std.proofs.Common.{◌≡◌, Bool, true, false, List, [], ◌∷◌, ◌++◌, map, refl, ap, ◌∙◌}
use Rattle.std.specs.List.{filter, list_any}
use Rattle.std.specs.Prelude.{cond, ◌||◌, ◌&&◌, not}
use Rattle.diag_exchange.specs.Asking.{change_last}

pub or_left : (a b : Bool) → (a || b) ≡ false → a ≡ false
or_left true b e = cc
or_left false b e = refl

pub or_right : (a b : Bool) → (a || b) ≡ false → b ≡ false
or_right true b e = cc
or_right false b e = e

pub or_true : (a : Bool) → (a || true) ≡ true
or_true true = refl
or_true false = refl

pub or_false : (a : Bool) → (a || false) ≡ a
or_false true = refl
or_false false = refl

pub and_true : (a b : Bool) → (a && b) ≡ true → (a ≡ true) × (b ≡ true)
and_true true b e = (refl, e)
and_true false b e = cc

pub not_true : (a : Bool) → not a ≡ true → a ≡ false
not_true true e = cc
not_true false e = refl

module _ {X : Type 0} (p : X → Bool) (f : X → X) where
  -- where none has the property, none is changed
  pub change_none : (xs : List X) → list_any p xs ≡ false → change_last p f xs ≡ xs
  change_none [] e = refl
  change_none (x ∷ xs) e =
      rw (or_right (p x) (list_any p xs) e, or_left (p x) (list_any p xs) e) refl

  pub change_last_here : (x : X) (xs : List X) → list_any p xs ≡ false → p x ≡ true → change_last p f (x ∷ xs) ≡ f x ∷ xs
  change_last_here x xs none here = rw (none, here) refl

  pub change_not_here : (x : X) (xs : List X) → list_any p xs ≡ false → p x ≡ false → change_last p f (x ∷ xs) ≡ x ∷ xs
  change_not_here x xs none here = rw (none, here) refl

  pub change_later : (x : X) (xs : List X) → list_any p xs ≡ true → change_last p f (x ∷ xs) ≡ x ∷ change_last p f xs
  change_later x xs some = rw some refl

-- ---- each of a list, and each two

abbrev pub Each : {X : Type 0} → (X → Type 0) → List X → Type 0
Each P [] = Unit {0}
Each P (x ∷ xs) = P x × Each P xs

-- of each two the earlier and the later
abbrev pub Pairs : {X : Type 0} → (X → X → Type 0) → List X → Type 0
Pairs P [] = Unit {0}
Pairs P (x ∷ xs) = Each (P x) xs × Pairs P xs

pub each_push : {X : Type 0} (P : X → Type 0) (xs : List X) (x : X) → Each P xs → P x → Each P (xs ++ x ∷ [])
each_push P [] x e p = (p, tt)
each_push P (y ∷ ys) x e p = (e.0, each_push P ys x e.1 p)

pub each_map : {X Y : Type 0} (P : X → Type 0) (Q : Y → Type 0) (f : X → Y) → ((x : X) → P x → Q (f x)) → (xs : List X) → Each P xs → Each Q (map f xs)
each_map P Q f go [] e = tt
each_map P Q f go (x ∷ xs) e = (go x e.0, each_map P Q f go xs e.1)

each_cond : {X : Type 0} (P : X → Type 0) (b : Bool) (x : X) (xs : List X) → P x → Each P xs → Each P (cond b (x ∷ xs) xs)
each_cond P true x xs p e = (p, e)
each_cond P false x xs p e = e

pub each_filter : {X : Type 0} (P : X → Type 0) (t : X → Bool) (xs : List X) → Each P xs → Each P (filter t xs)
each_filter P t [] e = tt
each_filter P t (x ∷ xs) e = each_cond P (t x) x (filter t xs) e.0 (each_filter P t xs e.1)

pairs_cond : {X : Type 0} (P : X → X → Type 0) (b : Bool) (x : X) (xs : List X) → Each (P x) xs → Pairs P xs → Pairs P (cond b (x ∷ xs) xs)
pairs_cond P true x xs p e = (p, e)
pairs_cond P false x xs p e = e

pub pairs_filter : {X : Type 0} (P : X → X → Type 0) (t : X → Bool) (xs : List X) → Pairs P xs → Pairs P (filter t xs)
pairs_filter P t [] e = tt
pairs_filter P t (x ∷ xs) e = pairs_cond P (t x) x (filter t xs) (each_filter (P x) t xs e.0) (pairs_filter P t xs e.1)

pub pairs_map : {X Y : Type 0} (P : X → X → Type 0) (Q : Y → Y → Type 0) (f : X → Y) → ((x y : X) → P x y → Q (f x) (f y)) → (xs : List X)
    → Pairs P xs → Pairs Q (map f xs)
pairs_map P Q f go [] e = tt
pairs_map P Q f go (x ∷ xs) e = (each_map (P x) (Q (f x)) f (go x) xs e.0, pairs_map P Q f go xs e.1)

module _ {X : Type 0} (P : X → Type 0) (p : X → Bool) (f : X → X) (go : (x : X) → P x → p x ≡ true → P (f x)) where
  each_changed : (x : X) (xs : List X) → P x → Each P xs → Each P (change_last p f xs) → (a h : Bool) → list_any p xs ≡ a → p x ≡ h
      → Each P (change_last p f (x ∷ xs))
  each_changed x xs own all rest true h some here = rw (change_later p f x xs some) (own, rest)
  each_changed x xs own all rest false true none here = rw (change_last_here p f x xs none here) (go x own here, all)
  each_changed x xs own all rest false false none here = rw (change_not_here p f x xs none here) (own, all)

  pub each_change : (xs : List X) → Each P xs → Each P (change_last p f xs)
  each_change [] e = tt
  each_change (x ∷ xs) e = each_changed x xs e.0 e.1 (each_change xs e.1) (list_any p xs) (p x) refl refl

-- ---- those that are kept

pub filter_all : {X : Type 0} (t : X → Bool) (xs : List X) → Each (λ x. t x ≡ true) xs → filter t xs ≡ xs
filter_all t [] e = refl
filter_all t (x ∷ xs) e = ap (λ b. cond b (x ∷ filter t xs) (filter t xs)) e.0 ∙ ap (λ w. x ∷ w) (filter_all t xs e.1)

pub filter_none : {X : Type 0} (t : X → Bool) (xs : List X) → Each (λ x. t x ≡ false) xs → filter t xs ≡ []
filter_none t [] e = refl
filter_none t (x ∷ xs) e = ap (λ b. cond b (x ∷ filter t xs) (filter t xs)) e.0 ∙ filter_none t xs e.1

pub map_cond : {X Y : Type 0} (f : X → Y) (b : Bool) (x : X) (xs : List X) → map f (cond b (x ∷ xs) xs) ≡ cond b (f x ∷ map f xs) (map f xs)
map_cond f true x xs = refl
map_cond f false x xs = refl

true_cond : {X : Type 0} (t : X → Bool) (x : X) (xs : List X) → Each (λ x. t x ≡ true) xs → (b : Bool) → t x ≡ b → Each (λ x. t x ≡ true) (cond b (x ∷ xs) xs)
true_cond t x xs all true e = (e, all)
true_cond t x xs all false e = all

pub filter_true : {X : Type 0} (t : X → Bool) (xs : List X) → Each (λ x. t x ≡ true) (filter t xs)
filter_true t [] = tt
filter_true t (x ∷ xs) = true_cond t x (filter t xs) (filter_true t xs) (t x) refl

pub pairs_push : {X : Type 0} (P : X → X → Type 0) (xs : List X) (y : X) → Pairs P xs → Each (λ x. P x y) xs → Pairs P (xs ++ y ∷ [])
pairs_push P [] y p e = (tt, tt)
pairs_push P (x ∷ xs) y p e = (each_push (P x) xs y p.0 e.0, pairs_push P xs y p.1 e.1)

each_to : {X : Type 0} (P Q : X → Type 0) → ((x : X) → P x → Q x) → (xs : List X) → Each P xs → Each Q xs
each_to P Q go [] e = tt
each_to P Q go (x ∷ xs) e = (go x e.0, each_to P Q go xs e.1)

module _ {X : Type 0} (P : X → X → Type 0) (p : X → Bool) (f : X → X) (left : (x y : X) → P x y → P (f x) y) (right : (x y : X) → P x y → P x (f y)) where
  pairs_changed : (x : X) (xs : List X) → Each (P x) xs → Pairs P xs → Pairs P (change_last p f xs) → (a h : Bool) → list_any p xs ≡ a → p x ≡ h
      → Pairs P (change_last p f (x ∷ xs))
  pairs_changed x xs own all rest true h some here = rw (change_later p f x xs some) (each_change (P x) p f (λ y q e. right x y q) xs own, rest)
  pairs_changed x xs own all rest false true none here = rw (change_last_here p f x xs none here) (each_to (P x) (P (f x)) (left x) xs own, all)
  pairs_changed x xs own all rest false false none here = rw (change_not_here p f x xs none here) (own, all)

  pub pairs_change : (xs : List X) → Pairs P xs → Pairs P (change_last p f xs)
  pairs_change [] e = tt
  pairs_change (x ∷ xs) e = pairs_changed x xs e.0 e.1 (pairs_change xs e.1) (list_any p xs) (p x) refl refl
