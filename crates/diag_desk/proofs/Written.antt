-- Bytes that were compared, all lanes together, with others.
use Rattle.std.proofs.Common.{◌≡◌, ℕ, zero, suc, ◌+◌, ◌*◌, ◌/◌, ◌%◌, ◌^◌, ◌≤◌, true, false, not, cond, eqb, List, [], ◌∷◌, map, length, take, refl, sym, ap, ap₂, ◌∙◌, arith, inl, inr}
use Rattle.std.proofs.lemmas.Bool.Decides.{nat_tests}
use Rattle.std.proofs.lemmas.Bool.{cases_eq, eq-eqb, ne_eqb, cond-true, cond-false}
use Rattle.std.proofs.lemmas.List.{length-map, length-take-le, take_all}
use Rattle.std.proofs.lemmas.List.Sums.{prefix_len-le-length}
use Rattle.std.proofs.lemmas.Simd.{length-zip2, mask_l-mod, leading_from_mask_l, trailing_mask_l}
use Rattle.std.specs.List.{prefix_len}
use lib.Lanes.{mask_l, top, zip2}
use Rattle.hex.specs.Hex.{encode_upper}
use Rattle.diag_can.specs.Lanes.{first_set}
use Rattle.diag_can.proofs.Hex.{upper-take}

-- a lane is set where two bytes differ
abbrev pub differs : ℕ → ℕ → ℕ
differs a b = cond (not (eqb a b)) 255 0

pub differs-same : (a b : ℕ) → top 7 (differs a b) ≡ false → a ≡ b
differs-same a b is = grind (arith, nat_tests)

-- of two lists, where a lane is set where they differ
module _ (f : ℕ → ℕ → ℕ) (same : (a b : ℕ) → top 7 (f a b) ≡ false → a ≡ b) where
  -- how many lanes are not set, from the first
  abbrev run : List ℕ → List ℕ → ℕ
  run xs ys = prefix_len (λ x. not (top 7 x)) (zip2 f xs ys)

  same_front : (xs ys : List ℕ) (k : ℕ) → length xs ≡ length ys → k ≤ run xs ys → take k xs ≡ take k ys
  same_front [] [] k long le = refl
  same_front [] (y ∷ ys) k long le = absurd (omega arith)
  same_front (x ∷ xs) [] k long le = absurd (omega arith)
  same_front (x ∷ xs) (y ∷ ys) zero long le = refl
  same_front (x ∷ xs) (y ∷ ys) (suc k) long le =
      elim (top 7 (f x y)) as (λ b. top 7 (f x y) ≡ b → suc k ≤ cond (not b) (1 + run xs ys) 0 → x ∷ take k xs ≡ y ∷ take k ys) [
        | true ↦ λ is le. absurd (omega arith)
        | false ↦ λ is le. ap₂ (λ (a : ℕ) (l : List ℕ). a ∷ l) (same x y is) (same_front xs ys k (omega arith) (omega arith))
      ] refl le

  run_is : (xs ys : List ℕ) (n r : ℕ) → length xs ≡ n → length ys ≡ n → n ≤ 64 → r ≡ first_set (mask_l (map (top 7) (zip2 f xs ys)) % 2 ^ 64) n → r ≡ run xs ys
  run_is xs ys n r long other few found =
      let z = zip2 f xs ys in
      let all : length z ≡ n = length-zip2 f xs ys (omega arith) ∙ long in
      let mask = mask_l-mod (map (top 7) z) 64 (omega (arith, length-map z (top 7), all)) in
      found ∙ ap (λ m. first_set m n) mask
      ∙ elim (cases_eq (mask_l (map (top 7) z)) 0) [
        | inl none ↦ cond-true _ _ _ (eq-eqb _ _ none) ∙ sym (leading_from_mask_l (top 7) z none ∙ all)
        | inr some ↦ cond-false _ _ _ (ne_eqb _ _ some) ∙ trailing_mask_l (top 7) 64 z (omega arith) (omega arith)
      ]

  -- the bytes whose hex was compared, as far as it is that of the text
  pub written_front : (bytes digits text out : List ℕ) (n r : ℕ) → digits ≡ encode_upper bytes → length digits ≡ n → length text ≡ n → n ≤ 64
      → r ≡ first_set (mask_l (map (top 7) (zip2 f digits text)) % 2 ^ 64) n → r / 2 ≤ length bytes → out ≡ take (r / 2) bytes
      → encode_upper out ≡ take (2 * length out) text
  written_front bytes digits text out n r written long other few found inside taken =
      let count : length out ≡ r / 2 = ap length taken ∙ length-take-le (r / 2) bytes inside in
      let is = run_is digits text n r long other few found in
      ap encode_upper taken ∙ sym (upper-take (r / 2) bytes) ∙ ap (take (2 * (r / 2))) (sym written)
      ∙ same_front digits text (2 * (r / 2)) (omega arith) (omega arith) ∙ ap (λ (m : ℕ). take (2 * m) text) (sym count)

  -- no lane is set
  pub whole : (digits text : List ℕ) (n r : ℕ) → length digits ≡ n → length text ≡ n → n ≤ 64
      → r ≡ first_set (mask_l (map (top 7) (zip2 f digits text)) % 2 ^ 64) n → r ≡ n → digits ≡ text
  whole digits text n r long other few found all =
      let is = run_is digits text n r long other few found in
      sym (take_all n digits (omega arith)) ∙ same_front digits text n (omega arith) (omega arith) ∙ take_all n text (omega arith)

-- the lowest bit that is set of so many is one of them
pub first_set_within : (f : ℕ → ℕ → ℕ) (xs ys : List ℕ) (n r : ℕ) → length xs ≡ n → length ys ≡ n → n ≤ 64
    → ((a b : ℕ) → top 7 (f a b) ≡ false → a ≡ b) → r ≡ first_set (mask_l (map (top 7) (zip2 f xs ys)) % 2 ^ 64) n → r ≤ n
first_set_within f xs ys n r long other few same found =
    let z = zip2 f xs ys in
    let all : length z ≡ n = length-zip2 f xs ys (omega arith) ∙ long in
    omega (arith, run_is f same xs ys n r long other few found, prefix_len-le-length (λ x. not (top 7 x)) z, all)
