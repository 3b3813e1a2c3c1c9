-- What is kept of a tester's frames where the recording ends.
use Rattle.std.proofs.Common.{◌≡◌, ℕ, Option, Some, None, List, [], ◌∷◌, ◌++◌, length, map, inl, inr, refl, ap, ap₂, subst, sym, ◌∙◌, arith}
use Rattle.std.proofs.lemmas.List.{append-nil, length-map}
use Rattle.std.proofs.lemmas.Option.{none-some}
use Rattle.std.specs.Borrow.{Bor}
use Rattle.std.specs.Prelude.{option_copied, slice_get}
use Rattle.std.specs.Slice.{IsItemAt}
use Rattle.diag_bus.specs.Comparing.{Apart, Compares, OneIsEmpty, Part}
use Rattle.diag_bus.specs.Verdict.{bytes_of, difference}
use Rattle.diag_bus.specs.declared.comparing.Comparison.{Comparison}
use Rattle.diag_bus.specs.declared.verdict.Recorded.{Recorded}
use Rattle.diag_bus.specs.declared.verdict.Difference.{Difference}
use Rattle.diag_bus.proofs.Apart.{difference-both, differs_by}

-- the first that stands in a list, where there is one
pub first_of : {X : Type 0} (xs : List X) (x : X) → slice_get xs 0 ≡ Some x → (rest : List X) × (xs ≡ x ∷ rest)
first_of [] x at = absurd (none-some x at)
first_of (y ∷ xs) x at = let same : y ≡ x = cc in (xs, ap (λ z. z ∷ xs) same)

-- what a list lends at its front is the first
pub front_is : {X : Type 0} (xs : List X) (r : Option (Bor X)) → IsItemAt xs 0 r → option_copied r ≡ slice_get xs 0
front_is [] None h = refl
front_is [] (Some x) h = absurd (omega (arith, h.3.0))
front_is (y ∷ xs) None h = absurd (omega (arith, h.3))
front_is (y ∷ xs) (Some x) h = ap Some h.1

at_seam : {X : Type 0} (xs ys : List X) → slice_get (xs ++ ys) (length xs) ≡ slice_get ys 0
at_seam [] ys = refl
at_seam (x ∷ xs) ys = at_seam xs ys

module _ (kept : Comparison) (recorded : List Recorded) (expected : List (List ℕ)) (h : Compares kept recorded expected) where
  -- a difference is settled
  pub settled_is : (d : Difference) → kept.difference ≡ Some d → difference recorded expected ≡ Some d
  settled_is d is =
      let all = subst (λ o. Apart o kept.ahead.items kept.behind.items recorded expected) is h.apart in
      ap₂ difference (sym (append-nil recorded)) (sym (append-nil expected)) ∙ all [] []

  module _ (none : kept.difference ≡ None) where
    here : Part kept.ahead.items kept.behind.items recorded expected × OneIsEmpty kept.ahead.items kept.behind.items
    here = subst (λ o. Apart o kept.ahead.items kept.behind.items recorded expected) none h.apart

    behind_both : difference recorded expected ≡ difference kept.ahead.items kept.behind.items
    behind_both = ap₂ difference here.0.front here.0.back ∙ difference-both here.0.both kept.ahead.items kept.behind.items

    -- the recording has a frame where the server sends none
    pub ahead_is : (frame : Recorded) → slice_get kept.ahead.items 0 ≡ Some frame → difference recorded expected ≡ Some (differs_by frame None)
    ahead_is frame at =
        let first = first_of kept.ahead.items frame at in
        let empty : kept.behind.items ≡ [] = elim here.1 [
          | inl e ↦ absurd (omega (arith, ap length (sym first.1 ∙ e)))
          | inr e ↦ e
        ] in
        behind_both ∙ ap₂ difference first.1 empty

    pub none_ahead : kept.ahead.items ≡ [] → difference recorded expected ≡ None
    none_ahead empty = behind_both ∙ ap (λ (a : List Recorded). difference a kept.behind.items) empty

    next_is : kept.ahead.items ≡ [] → slice_get expected (length recorded) ≡ slice_get kept.behind.items 0
    next_is empty =
        let count : length recorded ≡ length (map bytes_of here.0.both) =
        ap length (here.0.front ∙ (ap (λ (a : List Recorded). here.0.both ++ a) empty ∙ append-nil here.0.both)) ∙ sym (length-map here.0.both bytes_of) in
        ap₂ (λ (e : List (List ℕ)) k. slice_get e k) here.0.back count ∙ at_seam (map bytes_of here.0.both) kept.behind.items

  -- where nothing differs, the next frame that is expected is the first that is kept
  pub lack_is : difference recorded expected ≡ None → slice_get expected (length recorded) ≡ slice_get kept.behind.items 0
  lack_is same = pick kept.difference refl
    where
      none_of : (ahead : List Recorded) → kept.difference ≡ None → kept.ahead.items ≡ ahead → kept.ahead.items ≡ []
      none_of [] none is = is
      none_of (frame ∷ rest) none is = absurd (none-some _ (sym same ∙ ahead_is none frame (ap (λ (a : List Recorded). slice_get a 0) is)))

      pick : (o : Option Difference) → kept.difference ≡ o → slice_get expected (length recorded) ≡ slice_get kept.behind.items 0
      pick None none = next_is none (none_of kept.ahead.items none refl)
      pick (Some d) is = absurd (none-some d (sym same ∙ settled_is d is))
