-- How a world goes on with one event more.
use Rattle.std.proofs.Common.{◌≡◌, ◌≢◌, ℕ, zero, suc, ◌+◌, false, cond, Some, None, List, [], ◌∷◌, ◌++◌, length, map, refl, ap, ◌∙◌, arith, inl, inr}
use Rattle.std.proofs.lemmas.List.{append-nil}
use Rattle.std.proofs.lemmas.Bool.{eq-eqb}
use Rattle.std.proofs.lemmas.Bool.Decides.{nat_tests}
use Rattle.std.specs.Prelude.{◌==◌, ◌⊎◌, slice_get, slice_set}
use Rattle.diag_can.specs.Event.{Event}
use Rattle.diag_pdu.specs.declared.step.Step.{Step}
use Rattle.diag_desk.specs.declared.entry.Entry.{Entry}
use Rattle.diag_desk.specs.Entries.{asked_by}
use Rattle.diag_desk.specs.Legal.{after_step}
use Rattle.diag_desk.specs.Timed.{own_timed, timed, timed_entry}
use Rattle.diag_ecu.specs.State.{State}
use Rattle.diag_world.specs.Weaving.{items_of, all_by}
use Rattle.diag_world.proofs.Interleavings.{items_of-append}

-- what stands in a list after one place was written
pub set_cases : {X : Type 0} (xs : List X) (i j : ℕ) (v x : X) → slice_get (slice_set xs i v) j ≡ Some x
    → ((j ≡ i) × (x ≡ v)) ⊎ ((j ≢ i) × (slice_get xs j ≡ Some x))
set_cases [] i j v x h = inr ((λ e. absurd (clash h)), h)
  where
    clash : None ≡ Some x → ⊥
    clash h = cc
set_cases (y ∷ xs) zero zero v x h = let same : x ≡ v = cc in inl (refl, same)
set_cases (y ∷ xs) zero (suc j) v x h = inr ((λ e. absurd (omega (arith, e))), h)
set_cases (y ∷ xs) (suc i) zero v x h = inr ((λ e. absurd (omega (arith, e))), h)
set_cases (y ∷ xs) (suc i) (suc j) v x h = elim (set_cases xs i j v x h) [
  | inl p ↦ inl (ap suc p.0, p.1)
  | inr p ↦ inr ((λ e. p.0 (omega (arith, e))), p.1)
]

first_by : (k : Entry) (more : List Entry) (t : ℕ) (x : Step) (xs : List Step) → asked_by (k ∷ more) ≡ all_by t (x ∷ xs) → k.who ≡ t
first_by k more t x xs h =
    let e : (k.who, k.step) ≡ (t, x) = cc in
    ap (λ (p : ℕ × Step). p.0) e

-- entries that were all added by one tester
pub own_mine : (s : State) (more : List Entry) (t : ℕ) (xs : List Step) → asked_by more ≡ all_by t xs → own_timed (timed s more) t ≡ timed s more
own_mine s [] t xs h = refl
own_mine s (k ∷ more) t [] h = absurd (clash h)
  where
    clash : asked_by (k ∷ more) ≡ [] → ⊥
    clash h = cc
own_mine s (k ∷ more) t (x ∷ xs) h =
    let by = first_by k more t x xs h in
    let rest : asked_by more ≡ all_by t xs = cc in
    let s' = after_step s k.who k.step in
    ap (λ b. cond b (timed_entry s k ∷ own_timed (timed s' more) t) (own_timed (timed s' more) t)) (eq-eqb k.who t by)
    ∙ ap (λ w. timed_entry s k ∷ w) (own_mine s' more t xs rest)

pub own_none : (s : State) (more : List Entry) (t u : ℕ) (xs : List Step) → (t == u) ≡ false → asked_by more ≡ all_by t xs
    → own_timed (timed s more) u ≡ []
own_none s [] t u xs away h = refl
own_none s (k ∷ more) t u [] away h = absurd (clash h)
  where
    clash : asked_by (k ∷ more) ≡ [] → ⊥
    clash h = cc
own_none s (k ∷ more) t u (x ∷ xs) away h =
    let by = first_by k more t x xs h in
    let rest : asked_by more ≡ all_by t xs = cc in
    let s' = after_step s k.who k.step in
    ap (λ b. cond b (timed_entry s k ∷ own_timed (timed s' more) u) (own_timed (timed s' more) u)) (ap (λ v. v == u) by ∙ away)
    ∙ own_none s' more t u xs away rest

pub items_mine : (M : List (ℕ × Event)) (t : ℕ) (e : Event) → items_of (M ++ (t, e) ∷ []) t ≡ items_of M t ++ e ∷ []
items_mine M t e = items_of-append M ((t, e) ∷ []) t ∙ ap (λ b. items_of M t ++ cond b (e ∷ []) []) (eq-eqb t t refl)

pub items_other : (M : List (ℕ × Event)) (t u : ℕ) (e : Event) → (t == u) ≡ false → items_of (M ++ (t, e) ∷ []) u ≡ items_of M u
items_other M t u e away = items_of-append M ((t, e) ∷ []) u ∙ (ap (λ b. items_of M u ++ cond b (e ∷ []) []) away ∙ append-nil (items_of M u))

pub other_place : (i j who : ℕ) → who ≡ i + 1 → j ≢ i → (who == (j + 1)) ≡ false
other_place i j who is apart = grind (arith, nat_tests)

-- what stands in a list after one more item
pub push_cases : {X : Type 0} (xs : List X) (j : ℕ) (v x : X) → slice_get (xs ++ v ∷ []) j ≡ Some x → ((j ≡ length xs) × (x ≡ v)) ⊎ (slice_get xs j ≡ Some x)
push_cases [] zero v x h = let same : x ≡ v = cc in inl (refl, same)
push_cases [] (suc j) v x h = inr h
push_cases (y ∷ xs) zero v x h = inr h
push_cases (y ∷ xs) (suc j) v x h = elim (push_cases xs j v x h) [ inl p ↦ inl (ap suc p.0, p.1) | inr p ↦ inr p ]

pub map_cases : {X Y : Type 0} (f : X → Y) (xs : List X) (j : ℕ) (y : Y) → slice_get (map f xs) j ≡ Some y → (x : X) × (slice_get xs j ≡ Some x) × (y ≡ f x)
map_cases f [] j y h = absurd (clash h)
  where
    clash : None ≡ Some y → ⊥
    clash h = cc
map_cases f (x ∷ xs) zero y h = let same : y ≡ f x = cc in (x, refl, same)
map_cases f (x ∷ xs) (suc j) y h = map_cases f xs j y h
