-- The last of a list that has a property, by its index.
use Rattle.std.proofs.Common.{◌≡◌, ◌<◌, ℕ, zero, suc, Bool, true, false, Option, Some, None, List, [], ◌∷◌, length, drop, refl, ap, sym, subst, ◌∙◌}
use Rattle.std.proofs.lemmas.Option.{same_Some, none-some, slice_get_read, slice_get_within}
use Rattle.std.specs.List.{list_any}
use Rattle.std.specs.Prelude.{IsSomeAnd, slice_get, slice_index_or, slice_set, ◌||◌}
use Rattle.diag_exchange.specs.declared.open.Open.{Open}
use Rattle.diag_exchange.specs.Asking.{change_last}
use Rattle.diag_exchange.specs.Streaming.{IsLast}
use Rattle.diag_exchange.proofs.Lists.{change_last_here, change_later, or_true}

module _ (p : Open → Bool) where
  found_in : (o : Option Open) → IsSomeAnd o (λ e. p e ≡ true) → (e : Open) × (o ≡ Some e) × (p e ≡ true)
  found_in None h = absurd h
  found_in (Some e) h = (e, refl, h)

  pub is_found : (es : List Open) (i : ℕ) (e : Open) → slice_get es i ≡ Some e → p e ≡ true → IsSomeAnd (slice_get es i) (λ e. p e ≡ true)
  is_found es i e here has = subst (λ (o : Option Open). IsSomeAnd o (λ e. p e ≡ true)) (sym here) has

  any_at : (es : List Open) (i : ℕ) (e : Open) → slice_get es i ≡ Some e → p e ≡ true → list_any p es ≡ true
  any_at [] zero e here has = absurd (none-some e here)
  any_at [] (suc i) e here has = absurd (none-some e here)
  any_at (x ∷ es) zero e here has = ap (λ b. b || list_any p es) (ap p (same_Some _ _ here) ∙ has)
  any_at (x ∷ es) (suc i) e here has = ap (λ b. p x || b) (any_at es i e here has) ∙ or_true (p x)

  pub within_last : (es : List Open) (i : ℕ) → IsLast p es (Some i) → i < length es
  within_last es i last = let e = found_in (slice_get es i) last.0 in slice_get_within es i e.0 e.1

  pub any_last : (es : List Open) (i : ℕ) → IsLast p es (Some i) → list_any p es ≡ true
  any_last es i last = let e = found_in (slice_get es i) last.0 in any_at es i e.0 e.1 e.2

  module _ (f : Open → Open) where
    set_change : (es : List Open) (i : ℕ) (e : Open) → slice_get es i ≡ Some e → p e ≡ true → list_any p (drop (suc i) es) ≡ false
        → slice_set es i (f e) ≡ change_last p f es
    set_change [] zero e here has none = absurd (none-some e here)
    set_change [] (suc i) e here has none = absurd (none-some e here)
    set_change (x ∷ es) zero e here has none =
        let same : x ≡ e = same_Some _ _ here in
        ap (λ y. f y ∷ es) (sym same) ∙ sym (change_last_here p f x es none (ap p same ∙ has))
    set_change (x ∷ es) (suc i) e here has none =
        ap (λ w. x ∷ w) (set_change es i e here has none) ∙ sym (change_later p f x es (any_at es i e here has))

    -- the code changed it there
    pub changed_last : (es : List Open) (i : ℕ) (own new : Open) → IsLast p es (Some i) → own ≡ slice_index_or es i own → new ≡ f own
        → slice_set es i new ≡ change_last p f es
    changed_last es i own new last is_own is_new =
        let e = found_in (slice_get es i) last.0 in
        let here : slice_get es i ≡ Some own = slice_get_read es (length es) i own refl (slice_get_within es i e.0 e.1) is_own in
        let same : own ≡ e.0 = same_Some _ _ (sym here ∙ e.1) in
        ap (slice_set es i) is_new ∙ set_change es i own here (ap p same ∙ e.2) last.1
