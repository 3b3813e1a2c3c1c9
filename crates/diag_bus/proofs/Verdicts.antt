-- The verdict, from what is kept of all testers.
use Rattle.std.proofs.Common.{◌≡◌, ◌≢◌, ◌<◌, ℕ, zero, suc, ◌+◌, Option, Some, None, List, [], ◌∷◌, ◌++◌, length, refl, ap, ap₂, sym, ◌∙◌, arith}
use Rattle.std.proofs.lemmas.List.{append-nil}
use Rattle.std.proofs.lemmas.List.Elements.{filter_map-append}
use Rattle.std.proofs.lemmas.List.Sums.{fold-append}
use Rattle.std.proofs.lemmas.Option.{none-some}
use Rattle.std.specs.List.{cons_option, filter_map, reduce}
use Rattle.std.specs.Prelude.{OnErr, Result, Ok, Err, option_map, slice_get}
use Rattle.std.specs.Option.{option_to_list}
use Rattle.diag_pdu.specs.Cut.{counted_from}
use Rattle.diag_setup.specs.declared.raw.RawSetup.{RawSetup}
use Rattle.diag_bus.specs.Comparing.{Compares, ComparesLines, IsLack, IsVerdict, earlier_of}
use Rattle.diag_bus.specs.Verdict.{difference, difference_of, earlier, expected, first_difference, lack_of, numbers, recorded, verdict, verdict_by}
use Rattle.diag_bus.specs.declared.comparing.Comparison.{Comparison}
use Rattle.diag_bus.specs.declared.comparing.Comparisons.{Comparisons}
use Rattle.diag_bus.specs.declared.verdict.Difference.{Difference}
use Rattle.diag_bus.specs.declared.verdict.Recorded.{Recorded}
use Rattle.diag_bus.specs.declared.verdict.Verdict.{Verdict}
use Rattle.diag_bus.specs.declared.verdict.Verdict.TheVariants.{Agrees, Differs, Lacks}
use Rattle.diag_world.proofs.Waiting.{counted_more}

-- ---- one number more

one_number : {X : Type 0} (o : Option X) → cons_option o [] ≡ option_to_list o
one_number None = refl
one_number (Some x) = refl

pub number_more : {X : Type 0} (g : ℕ → Option X) (n : ℕ) → filter_map g (counted_from 1 (n + 1)) ≡ filter_map g (counted_from 1 n) ++ option_to_list (g (n + 1))
number_more g n =
    let next : 1 + n ≡ n + 1 = omega arith in
    ap (filter_map g) (counted_more 1 n)
    ∙ (filter_map-append g (counted_from 1 n) ((1 + n) ∷ [])
    ∙ (ap (λ w. filter_map g (counted_from 1 n) ++ w) (one_number (g (1 + n))) ∙ ap (λ k. filter_map g (counted_from 1 n) ++ option_to_list (g k)) next))

pub earlier_more : (ds : List (ℕ × Difference)) (o : Option (ℕ × Difference)) → earlier_of (reduce earlier ds) o ≡ reduce earlier (ds ++ option_to_list o)
earlier_more [] None = refl
earlier_more [] (Some d) = refl
earlier_more (a ∷ ds) None = ap (reduce earlier) (sym (append-nil (a ∷ ds)))
earlier_more (a ∷ ds) (Some d) = ap Some (sym (fold-append earlier a ds (d ∷ [])))

-- ---- where there is none

pub none_left : (ds : List (ℕ × Difference)) → reduce earlier ds ≡ None → ds ≡ []
none_left [] e = refl
none_left (d ∷ ds) e = absurd (none-some _ (sym e))

pub both_none : {X : Type 0} (o : Option X) (xs : List X) → cons_option o xs ≡ [] → (o ≡ None) × (xs ≡ [])
both_none None xs e = (refl, e)
both_none (Some x) xs e = absurd (omega (arith, ap length e))

none_at : {X : Type 0} (g : ℕ → Option X) (a n i : ℕ) → filter_map g (counted_from a n) ≡ [] → i < n → g (a + i) ≡ None
none_at g a zero i none less = absurd (omega arith)
none_at g a (suc n) zero none less = let same : a + 0 ≡ a = omega arith in ap g same ∙ (both_none (g a) (filter_map g (counted_from (suc a) n)) none).0
none_at g a (suc n) (suc i) none less =
    let same : a + suc i ≡ suc a + i = omega arith in
    ap g same ∙ none_at g (suc a) n i (both_none (g a) (filter_map g (counted_from (suc a) n)) none).1 (omega (arith, less))

pub unmapped : {X Y : Type 0} (f : X → Y) (o : Option X) → option_map f o ≡ None → o ≡ None
unmapped f None e = refl
unmapped f (Some x) e = absurd (none-some _ (sym e))

-- where no line differs, none of any tester's does
pub no_difference : (setup : RawSetup) (lines : List (List ℕ)) (i : ℕ) → first_difference setup lines ≡ None → i < length setup.testers
    → difference (recorded setup lines (i + 1)) (expected setup lines (i + 1)) ≡ None
no_difference setup lines i none less =
    let next : 1 + i ≡ i + 1 = omega arith in
    let here = none_at (difference_of setup lines) 1 (length setup.testers) i (none_left (filter_map (difference_of setup lines) (numbers setup)) none) less in
    unmapped (λ d. (i + 1, d)) (difference (recorded setup lines (i + 1)) (expected setup lines (i + 1))) (ap (difference_of setup lines) (sym next) ∙ here)

-- ---- the first of whom frames are missing

pub first_at : {X : Type 0} (g : ℕ → Option X) (x : X) (a n i : ℕ) → filter_map g (counted_from a i) ≡ [] → i < n → g (a + i) ≡ Some x
    → (rest : List X) × (filter_map g (counted_from a n) ≡ x ∷ rest)
first_at g x a zero i none less at = absurd (omega arith)
first_at g x a (suc n) zero none less at =
    let same : a + 0 ≡ a = omega arith in
    (filter_map g (counted_from (suc a) n), ap (λ o. cons_option o (filter_map g (counted_from (suc a) n))) (ap g (sym same) ∙ at))
first_at g x a (suc n) (suc i) none less at =
    let same : suc a + i ≡ a + suc i = omega arith in
    let before = both_none (g a) (filter_map g (counted_from (suc a) i)) none in
    let later = first_at g x (suc a) n i before.1 (omega (arith, less)) (ap g same ∙ at) in
    (later.0, ap (λ o. cons_option o (filter_map g (counted_from (suc a) n))) before.0 ∙ later.1)

-- the verdict where no line differs and frames of this tester are missing first
pub verdict_lacks : (setup : RawSetup) (lines : List (List ℕ)) (i : ℕ) (v : Verdict) → first_difference setup lines ≡ None
    → filter_map (lack_of setup lines) (counted_from 1 i) ≡ [] → i < length setup.testers → lack_of setup lines (i + 1) ≡ Some v
    → v ≡ verdict setup lines
verdict_lacks setup lines i v none before less at =
    let next : 1 + i ≡ i + 1 = omega arith in
    let first = first_at (lack_of setup lines) v 1 (length setup.testers) i before less (ap (lack_of setup lines) next ∙ at) in
    sym (ap₂ verdict_by none first.1)

-- ---- of what is kept

-- what a tester's frames lack, where no line differs
abbrev pub HasLack : Comparison → Option (List ℕ) → Type 0
HasLack own lack = (recorded : List Recorded) (expected : List (List ℕ)) → Compares own recorded expected → difference recorded expected ≡ None
    → lack ≡ slice_get expected (length recorded)

module _ (setup : RawSetup) (kept : Comparisons) where
  -- the testers before this index lack nothing
  abbrev pub NoneLack : ℕ → Type 0
  NoneLack i = (lines : List (List ℕ)) → ComparesLines setup kept lines → first_difference setup lines ≡ None
      → filter_map (lack_of setup lines) (counted_from 1 i) ≡ []

  module _ (i : ℕ) (own : Comparison) (here : slice_get kept.testers.items i ≡ Some own) (less : i < length setup.testers) where
    -- the tester at this index has a lack: it is the first
    pub lack_found : (who : ℕ) (next : List ℕ) → who ≡ i + 1 → HasLack own (Some next) → NoneLack i → IsLack setup kept (Lacks who own.count next)
    lack_found who next is has before = λ lines h none.
        let each = h.each i own here in
        let there = has (recorded setup lines (i + 1)) (expected setup lines (i + 1)) each (no_difference setup lines i none less) in
        let v : Verdict = Lacks who own.count next in
        let at : lack_of setup lines (i + 1) ≡ Some v =
        ap (option_map (Lacks (i + 1) (length (recorded setup lines (i + 1))))) (sym there)
        ∙ ap₂ (λ t n. Some (Lacks t n next)) (sym is) (sym each.count) in
        verdict_lacks setup lines i v none (before lines h none) less at

    -- or it has none, either
    pub lack_none : HasLack own None → NoneLack i → NoneLack (i + 1)
    lack_none has before = λ lines h none.
        let there = has (recorded setup lines (i + 1)) (expected setup lines (i + 1)) (h.each i own here) (no_difference setup lines i none less) in
        let at : lack_of setup lines (i + 1) ≡ None = ap (option_map (Lacks (i + 1) (length (recorded setup lines (i + 1))))) (sym there) in
        number_more (lack_of setup lines) i
        ∙ ap₂ (λ (xs : List Verdict) (o : Option Verdict). xs ++ option_to_list o) (before lines h none) at

  -- a line differs: the first that does
  pub differs_first : (who : ℕ) (d : Difference) → ((lines : List (List ℕ)) → ComparesLines setup kept lines → Some (who, d) ≡ first_difference setup lines)
      → IsVerdict setup kept (Differs who d)
  differs_first who d first = λ lines h. ap (λ f. verdict_by f (filter_map (lack_of setup lines) (numbers setup))) (first lines h)

  -- no line does
  pub differs_none : (v : Verdict) → ((lines : List (List ℕ)) → ComparesLines setup kept lines → first_difference setup lines ≡ None)
      → IsLack setup kept v → IsVerdict setup kept v
  differs_none v none lack = λ lines h. lack lines h (none lines h)

pub lacks_apart : (who count : ℕ) (next : List ℕ) → Lacks who count next ≢ Agrees
lacks_apart who count next e = cc

pub differs_apart : (who : ℕ) (d : Difference) → Differs who d ≢ Agrees
differs_apart who d e = cc

-- what is answered where memory is refused
pub on_err_of : {T E P : Type 0} (r : Result T E) → P → OnErr r P
on_err_of (Ok x) p = tt
on_err_of (Err e) p = p
