-- A recording of no frames: by each tester's number.
use Rattle.std.proofs.Common.{◌≡◌, ◌≢◌, ◌≤◌, ◌<◌, ◌⊎◌, ℕ, zero, suc, ◌+◌, Bool, true, false, List, [], ◌∷◌, length, inl, inr, refl, sym, ap, ◌∙◌, arith}
use Rattle.std.proofs.lemmas.Bool.{true≢false}
use Rattle.std.proofs.lemmas.Bool.Decides.{nat_tests}
use Rattle.std.proofs.lemmas.List.{nil_from_length}
use Rattle.std.specs.List.{list_all}
use Rattle.std.specs.Prelude.{◌&&◌, ◌==◌, nat_lt}
use Rattle.diag_pdu.specs.Cut.{counted_from}
use Rattle.diag_setup.specs.declared.raw.RawSetup.{RawSetup}
use Rattle.diag_bus.specs.Verdict.{IsNumber, recorded}
use Rattle.diag_bus.specs.declared.verdict.Recorded.{Recorded}
use Rattle.diag_world.proofs.Waiting.{counted_more}
use Rattle.std.proofs.lemmas.List.Folds.{list_all-append}
use Rattle.diag_text.specs.Agreed.{compares_nothing, has_none}

and_false : (b : Bool) → (b && false) ≡ false
and_false true = refl
and_false false = refl

and_first : (a b : Bool) → (a && b) ≡ true → a ≡ true
and_first true b both = refl
and_first false b both = both

and_second : (a b : Bool) → (a && b) ≡ true → b ≡ true
and_second true b both = both
and_second false b both = absurd (true≢false (sym both))

here_or_later : (a t : ℕ) → a ≤ t → (t ≡ a) ⊎ (suc a ≤ t)
here_or_later a t le = pick (nat_lt a t) refl
  where
    pick : (b : Bool) → nat_lt a t ≡ b → (t ≡ a) ⊎ (suc a ≤ t)
    pick true e = inr (grind (arith, nat_tests))
    pick false e = inl (let under : t ≤ a = grind (arith, nat_tests) in omega (arith, under, le))

module _ (test : ℕ → Bool) where
  -- one number more passes
  pub all_more : (n : ℕ) → list_all test (counted_from 1 n) ≡ true → test (n + 1) ≡ true → list_all test (counted_from 1 (n + 1)) ≡ true
  all_more n before next =
      let same : 1 + n ≡ n + 1 = omega arith in
      ap (list_all test) (counted_more 1 n)
      ∙ (list_all-append test (counted_from 1 n) ((1 + n) ∷ [])
      ∙ (ap (λ b. b && (test (1 + n) && true)) before ∙ ap (λ b. b && true) (ap test same ∙ next)))

  -- one that doesn't is enough
  pub not_all : (a n t : ℕ) → a ≤ t → t < a + n → test t ≡ false → list_all test (counted_from a n) ≡ false
  not_all a zero t above below fails = absurd (omega (arith, above, below))
  not_all a (suc n) t above below fails = elim (here_or_later a t above) [
    | inl here ↦ ap (λ b. b && list_all test (counted_from (suc a) n)) (ap test (sym here) ∙ fails)
    | inr later ↦ ap (λ b. test a && b) (not_all (suc a) n t later (omega (arith, below)) fails) ∙ and_false (test a)
  ]

  -- where all pass, each does
  each_passes : (a n t : ℕ) → a ≤ t → t < a + n → list_all test (counted_from a n) ≡ true → test t ≡ true
  each_passes a zero t above below all = absurd (omega (arith, above, below))
  each_passes a (suc n) t above below all = elim (here_or_later a t above) [
    | inl here ↦ ap test here ∙ and_first (test a) (list_all test (counted_from (suc a) n)) all
    | inr later ↦ each_passes (suc a) n t later (omega (arith, below)) (and_second (test a) (list_all test (counted_from (suc a) n)) all)
  ]

  -- where not all pass, there is one that doesn't
  some_fails : (a n : ℕ) → list_all test (counted_from a n) ≡ false → (t : ℕ) × (a ≤ t) × (t < a + n) × (test t ≡ false)
  some_fails a zero none = absurd (true≢false none)
  some_fails a (suc n) none = pick (test a) refl
      (λ passes. some_fails (suc a) n (sym (ap (λ b. b && list_all test (counted_from (suc a) n)) passes) ∙ none))
    where
      pick : (b : Bool) → test a ≡ b → (test a ≡ true → (t : ℕ) × (suc a ≤ t) × (t < suc a + n) × (test t ≡ false))
          → (t : ℕ) × (a ≤ t) × (t < a + suc n) × (test t ≡ false)
      pick false fails later = (a, omega arith, omega arith, fails)
      pick true passes later =
          let one = later passes in
          (one.0, omega (arith, one.1), omega (arith, one.2), one.3)

module _ (setup : RawSetup) (lines : List (List ℕ)) where
  -- nothing is compared, so no tester has a frame
  pub none_has : compares_nothing setup lines ≡ true → (t : ℕ) → IsNumber setup t → recorded setup lines t ≡ []
  none_has nothing t number =
      let tested = each_passes (has_none setup lines) 1 (length setup.testers) t number.0 (omega (arith, number.1)) nothing in
      nil_from_length (recorded setup lines t) (grind (arith, nat_tests, tested))

  -- something is compared, so some tester has one
  pub some_has : compares_nothing setup lines ≡ false → (t : ℕ) × IsNumber setup t × (recorded setup lines t ≢ [])
  some_has something =
      let one = some_fails (has_none setup lines) 1 (length setup.testers) something in
      (one.0, (one.1, omega (arith, one.2)), λ none. true≢false (sym (ap (λ (r : List Recorded). length r == 0) none) ∙ one.3))
