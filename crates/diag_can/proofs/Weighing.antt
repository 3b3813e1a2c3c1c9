-- The digits of a stamp, weighed together.
use Rattle.std.proofs.Common.{◌≡◌, ℕ, ◌+◌, ◌-◌, ◌*◌, ◌<◌, ◌≤◌, ◌&&◌, Bool, true, false, List, [], ◌∷◌, ◌++◌, length, drop, get_or, sym, ap, subst, ◌∙◌, arith}
use Rattle.std.proofs.lemmas.Bool.Decides.{nat_tests}
use Rattle.std.proofs.lemmas.List.{get_or-drop, get_or-take, take-take}
use Rattle.std.proofs.lemmas.Simd.{length-chunk, pick_l_whole, pick_l-range_with_len}
use lib.Dec.{T, lt→ltb}
use lib.Lanes.{chunk, pick_l, all_below, products, pair_sums, dots}
use Rattle.diag_can.specs.Lanes.{IsRunIn}
use Rattle.diag_can.specs.Stamp.{is_digit, decimal_value}
use Rattle.diag_can.specs.Usual.{three_at}
use Rattle.diag_can.specs.MomentText.{usual_moment}

-- ---- the lanes

abbrev picked : List ℕ → List ℕ
picked v = pick_l 0 (v ++ v) (1 ∷ 2 ∷ 3 ∷ 0 ∷ 4 ∷ 5 ∷ 6 ∷ 0 ∷ 7 ∷ 8 ∷ 9 ∷ 0 ∷ 11 ∷ 12 ∷ 13 ∷ 0 ∷ [])

abbrev weights : List ℕ
weights = 100 ∷ 10 ∷ 1 ∷ 0 ∷ 100 ∷ 10 ∷ 1 ∷ 0 ∷ 100 ∷ 10 ∷ 1 ∷ 0 ∷ 100 ∷ 10 ∷ 1 ∷ 0 ∷ []

both_hold : (a b : Bool) → T a → T b → T (a && b)
both_hold true true p q = tt
both_hold true false p q = q
both_hold false b p q = absurd p

-- what the lanes make of bytes
abbrev AreWeighed : List ℕ → Type 0
AreWeighed v = ((k : ℕ) → k < 16 → get_or v k 0 < 256)
    → T (all_below 32768 (pair_sums (products (picked v) weights)))
    × (dots (picked v) weights ≡ (get_or v 1 0 * 100 + get_or v 2 0 * 10 + get_or v 3 0) ∷ (get_or v 4 0 * 100 + get_or v 5 0 * 10 + get_or v 6 0)
    ∷ (get_or v 7 0 * 100 + get_or v 8 0 * 10 + get_or v 9 0) ∷ (get_or v 11 0 * 100 + get_or v 12 0 * 10 + get_or v 13 0) ∷ [])

first_two : (a b : ℕ) → a < 256 → b < 256 → T (lib.Dec.ltb (a * 100 + b * 10) 32768)
first_two a b p q = lt→ltb _ _ (omega arith)

last_two : (a b : ℕ) → a < 256 → T (lib.Dec.ltb (a * 1 + b * 0) 32768)
last_two a b p = lt→ltb _ _ (omega arith)

three : (a b c z : ℕ) → (a * 100 + b * 10) + (c * 1 + z * 0) ≡ a * 100 + b * 10 + c
three a b c z = omega arith

weighed : (x0 x1 x2 x3 x4 x5 x6 x7 x8 x9 x10 x11 x12 x13 x14 x15 : ℕ)
    → AreWeighed (x0 ∷ x1 ∷ x2 ∷ x3 ∷ x4 ∷ x5 ∷ x6 ∷ x7 ∷ x8 ∷ x9 ∷ x10 ∷ x11 ∷ x12 ∷ x13 ∷ x14 ∷ x15 ∷ [])
weighed x0 x1 x2 x3 x4 x5 x6 x7 x8 x9 x10 x11 x12 x13 x14 x15 fits = (
  both_hold _ _ (first_two x1 x2 (fits 1 (omega arith)) (fits 2 (omega arith))) (both_hold _ _ (last_two x3 x0 (fits 3 (omega arith)))
      (both_hold _ _ (first_two x4 x5 (fits 4 (omega arith)) (fits 5 (omega arith))) (both_hold _ _ (last_two x6 x0 (fits 6 (omega arith)))
      (both_hold _ _ (first_two x7 x8 (fits 7 (omega arith)) (fits 8 (omega arith))) (both_hold _ _ (last_two x9 x0 (fits 9 (omega arith)))
      (both_hold _ _ (first_two x11 x12 (fits 11 (omega arith)) (fits 12 (omega arith))) (both_hold _ _ (last_two x13 x0 (fits 13 (omega arith))) tt))))))),
  λ i. three x1 x2 x3 x0 i ∷ three x4 x5 x6 x0 i ∷ three x7 x8 x9 x0 i ∷ three x11 x12 x13 x0 i ∷ [],
)

-- ---- a line

module _ (line : List ℕ) (long : 22 ≤ length line) (fits : (k : ℕ) → get_or line k 0 < 256) where
  at : (k : ℕ) → k < 16 → get_or (chunk 1 16 line) k 0 ≡ get_or line (1 + k) 0
  at k lt = get_or-take 16 (drop 1 line) k 0 lt ∙ get_or-drop 1 line k 0

  all : AreWeighed (chunk 1 16 line)
  all = subst AreWeighed (pick_l_whole 0 (chunk 1 16 line) 16 (length-chunk 1 16 line (omega arith))) (weighed _ _ _ _ _ _ _ _ _ _ _ _ _ _ _ _)

  small : (k : ℕ) → k < 16 → get_or (chunk 1 16 line) k 0 < 256
  small k lt = subst (λ (c : ℕ). c < 256) (sym (at k lt)) (fits (1 + k))

  pub are_small : T (all_below 32768 (pair_sums (products (picked (chunk 1 16 line)) weights)))
  are_small = (all small).0

  three_is : (i : ℕ) → i + 2 < 16 → get_or (chunk 1 16 line) i 0 * 100 + get_or (chunk 1 16 line) (i + 1) 0 * 10 + get_or (chunk 1 16 line) (i + 2) 0
      ≡ get_or line (1 + i) 0 * 100 + get_or line (1 + (i + 1)) 0 * 10 + get_or line (1 + (i + 2)) 0
  three_is i lt = omega (arith, at i (omega arith), at (i + 1) (omega arith), at (i + 2) (omega arith))

  pub are_threes : dots (picked (chunk 1 16 line)) weights ≡ three_at line 2 ∷ three_at line 5 ∷ three_at line 8 ∷ three_at line 12 ∷ []
  are_threes = (all small).1 ∙ (λ j. three_is 1 (omega arith) j ∷ three_is 4 (omega arith) j ∷ three_is 7 (omega arith) j ∷ three_is 11 (omega arith) j ∷ [])

  pub three_small : (i : ℕ) → three_at line i < 28306
  three_small i = omega (arith, fits i, fits (i + 1), fits (i + 2))

-- ---- the moment

unzeroed : (a b c d e f g h i j k l m : ℕ)
    → ((((a + 48) * 1000 + ((b + 48) * 100 + (c + 48) * 10 + (d + 48))) * 1000 + ((e + 48) * 100 + (f + 48) * 10 + (g + 48))) * 1000
    + ((h + 48) * 100 + (i + 48) * 10 + (j + 48))) * 1000 + ((k + 48) * 100 + (l + 48) * 10 + (m + 48)) - 53333333333328
    ≡ ((((((((((0 * 10 + a) * 10 + b) * 10 + c) * 10 + d) * 10 + e) * 10 + f) * 10 + g) * 10 + h) * 10 + i) * 10 + j) * 1000
    + (((0 * 10 + k) * 10 + l) * 10 + m)
unzeroed a b c d e f g h i j k l m = omega arith

digit-is : (c : ℕ) → is_digit c ≡ true → c ≡ c - 48 + 48
digit-is c h = let low : 48 ≤ c = grind (arith, nat_tests) in omega arith

pub moment_weighed : (line : List ℕ) → 22 ≤ length line → IsRunIn is_digit line 1 16 10 → IsRunIn is_digit line 12 8 6
    → (((get_or line 1 0 * 1000 + three_at line 2) * 1000 + three_at line 5) * 1000 + three_at line 8) * 1000 + three_at line 12 - 53333333333328
    ≡ usual_moment line
moment_weighed line long seconds fraction =
    let s : (k : ℕ) → 1 ≤ k → k < 11 → get_or line k 0 ≡ get_or line k 0 - 48 + 48 = λ k p q. digit-is _ (seconds.pass k p (omega arith)) in
    let f : (k : ℕ) → 12 ≤ k → k < 18 → get_or line k 0 ≡ get_or line k 0 - 48 + 48 = λ k p q. digit-is _ (fraction.pass k p (omega arith)) in
    let front = ap decimal_value (sym (pick_l-range_with_len 0 line 1 10 (omega arith))) in
    let back = ap decimal_value (take-take 3 6 (drop 12 line) (omega arith) ∙ sym (pick_l-range_with_len 0 line 12 3 (omega arith))) in
    (λ j. (((s 1 (omega arith) (omega arith) j * 1000
    + (s 2 (omega arith) (omega arith) j * 100 + s 3 (omega arith) (omega arith) j * 10 + s 4 (omega arith) (omega arith) j)) * 1000
    + (s 5 (omega arith) (omega arith) j * 100 + s 6 (omega arith) (omega arith) j * 10 + s 7 (omega arith) (omega arith) j)) * 1000
    + (s 8 (omega arith) (omega arith) j * 100 + s 9 (omega arith) (omega arith) j * 10 + s 10 (omega arith) (omega arith) j)) * 1000
    + (f 12 (omega arith) (omega arith) j * 100 + f 13 (omega arith) (omega arith) j * 10 + f 14 (omega arith) (omega arith) j) - 53333333333328)
    ∙ unzeroed _ _ _ _ _ _ _ _ _ _ _ _ _ ∙ sym (λ j. front j * 1000 + back j)
