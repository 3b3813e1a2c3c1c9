-- Sixteen bytes that are each between two.
use Rattle.std.proofs.Common.{◌≡◌, ℕ, ◌+◌, ◌-◌, ◌/◌, ◌%◌, ◌^◌, ◌<◌, ◌≤◌, ◌==◌, ◌&&◌, nat_le, nat_lt, ltb, Bool, true, false, cond, List, [], ◌∷◌, map, length, get_or, Fits, w8, refl, sym, ap, ap₂, subst, eqb, ◌∙◌, arith}
use Rattle.std.proofs.lemmas.Bool.{agree_below, agree_below_at, eqb-true}
use Rattle.std.proofs.lemmas.Bool.Decides.{nat_tests}
use Rattle.std.proofs.lemmas.List.{length-map, get_or-map}
use Rattle.std.proofs.lemmas.Simd.{mask_l-mod, length-chunk, get_or-chunk, bit_mask_l, get_or-zip2, length-zip2}
use native.Mathlib.Nat.{zero-div}
use lib.Lanes.{chunk, zip2, mask_l, top}
use Rattle.diag_can.specs.Lanes.{AreBounds, IsRunIn, IsWithin}
use Rattle.diag_can.specs.Stamp.{is_digit, is_no_space}
use Rattle.diag_can.specs.Usual.{IsFramed}
use Rattle.diag_can.proofs.UsualLines.{framed}

-- ---- the lanes

-- a byte less another, as a lane has it
abbrev pub minus : ℕ → ℕ → ℕ
minus a b = (a + (256 - b)) % 256

abbrev pub less : ℕ → ℕ → ℕ
less a b = cond (ltb a b) 255 0

abbrev pub lanes : List ℕ → List ℕ → List ℕ → List ℕ
lanes v least most = zip2 less (zip2 minus most least) (zip2 minus v least)

unset : (b : Bool) → 0 ≡ cond {A = ℕ} b 1 0 → b ≡ false
unset true is = absurd (omega arith)
unset false is = refl

clear : (b : Bool) → top 7 (cond b 255 0) ≡ false → b ≡ false
clear true is = cc is
clear false is = refl

not_less : (a b : ℕ) → ltb a b ≡ false → b ≤ a
not_less a b is = grind (arith, nat_tests)

-- no further above the least than the most is: between the two
between : (c least most : ℕ) → c < 256 → least ≤ most → most < 256 → minus c least ≤ minus most least → (least ≤ c) × (c ≤ most)
between c least most byte ordered few near = (omega (arith, byte, ordered, few, near), omega (arith, byte, ordered, few, near))

pub within : (text least most : List ℕ) (at : ℕ) → at + 16 ≤ length text → length least ≡ 16 → length most ≡ 16
    → ((k : ℕ) → Fits w8 (get_or text k 0)) → AreBounds least most
    → mask_l (map (top 7) (lanes (chunk at 16 text) least most)) % 2 ^ 64 ≡ 0 → IsWithin text at least most
within text least most at room sixteen too bytes bounds none j lt =
    let v = chunk at 16 text in
    let long = length-chunk at 16 text room in
    let found = lanes v least most in
    let ms : List Bool = map (top 7) found in
    let ranges = length-zip2 minus most least (omega (arith, too, sixteen)) in
    let beyond = length-zip2 minus v least (omega (arith, long, sixteen)) in
    let count = length-zip2 less (zip2 minus most least) (zip2 minus v least) (omega (arith, ranges, beyond, long, too)) in
    let mask : mask_l ms ≡ 0 = sym (mask_l-mod ms 64 (omega (arith, length-map found (top 7), count, ranges, too))) ∙ none in
    let bit : 0 ≡ cond {A = ℕ} (get_or ms j false) 1 0 = sym (ap (λ n. n % 2) (zero-div (2 ^ j))) ∙ ap (λ m. m / 2 ^ j % 2) (sym mask) ∙ bit_mask_l ms j in
    let range = get_or-zip2 minus most least j 0 0 0 (omega (arith, too)) (omega (arith, sixteen)) in
    let far = get_or-zip2 minus v least j 0 0 0 (omega (arith, long)) (omega (arith, sixteen)) in
    let lane : get_or ms j false ≡ top 7 (less (minus (get_or most j 0) (get_or least j 0)) (minus (get_or v j 0) (get_or least j 0))) =
    get_or-map (top 7) found j 0 false (omega (arith, count, ranges, too))
    ∙ ap (top 7) (get_or-zip2 less (zip2 minus most least) (zip2 minus v least) j 0 0 0 (omega (arith, ranges, too)) (omega (arith, beyond, long))
    ∙ ap₂ less range far) in
    let near : minus (get_or v j 0) (get_or least j 0) ≤ minus (get_or most j 0) (get_or least j 0) = not_less _ _ (clear (ltb (minus (get_or most j 0) (get_or least j 0)) (minus (get_or v j 0) (get_or least j 0))) (sym lane ∙ unset _ bit)) in
    let here = get_or-chunk at 16 text j 0 (omega (arith, long)) in
    let close : minus (get_or text (at + j) 0) (get_or least j 0) ≤ minus (get_or most j 0) (get_or least j 0) =
    subst (λ (x : ℕ). minus x (get_or least j 0) ≤ minus (get_or most j 0) (get_or least j 0)) here near in
    between (get_or text (at + j) 0) (get_or least j 0) (get_or most j 0) (bytes (at + j)).fits (bounds j lt).0 (bounds j lt).1 close

-- of literal bytes it is seen
pub bounded : (least most : List ℕ)
    → agree_below (λ k. nat_le (get_or least k 0) (get_or most k 0) && nat_lt (get_or most k 0) 256) (λ _. true) 16 ≡ true → AreBounds least most
bounded least most all j lt =
    let here = agree_below_at (λ k. nat_le (get_or least k 0) (get_or most k 0) && nat_lt (get_or most k 0) 256) (λ _. true) 16 j all lt in (
      grind (arith, nat_tests),
      grind (arith, nat_tests),
    )

-- ---- a line whose stamp and what is around it are of the usual form

digit : (c : ℕ) → 48 ≤ c → c ≤ 57 → is_digit c ≡ true
digit c p q = grind (arith, nat_tests)

-- the same byte stands at these places of a list
all_at : (xs : List ℕ) (from to c : ℕ)
    → agree_below (λ k. cond (nat_le from k && nat_lt k to) (eqb (get_or xs k 0) c) true) (λ _. true) 16 ≡ true
    → (k : ℕ) → from ≤ k → k < to → to ≤ 16 → get_or xs k 0 ≡ c
all_at xs from to c all k p q r =
    let inside : (nat_le from k && nat_lt k to) ≡ true = grind (arith, nat_tests) in
    let here = agree_below_at (λ k. cond (nat_le from k && nat_lt k to) (eqb (get_or xs k 0) c) true) (λ _. true) 16 k all (omega arith) in
    eqb-true _ _ (ap (λ (b : Bool). cond b (eqb (get_or xs k 0) c) true) (sym inside) ∙ here)

-- digits stand where the bounds are those of digits
digits_in : (text least most : List ℕ) (at from to : ℕ) → IsWithin text at least most
    → ((k : ℕ) → from ≤ k → k < to → to ≤ 16 → get_or least k 0 ≡ 48) → ((k : ℕ) → from ≤ k → k < to → to ≤ 16 → get_or most k 0 ≡ 57) → to ≤ 16
    → (k : ℕ) → at + from ≤ k → k < at + to → is_digit (get_or text k 0) ≡ true
digits_in text least most at from to bounded low high few k p q =
    let j : ℕ = k - at in
    let back : at + j ≡ k = omega arith in
    let bounds = rw back at (bounded j (omega arith)) in
    digit (get_or text k 0) (omega (arith, bounds.0, low j (omega arith) (omega arith) few)) (omega (arith, bounds.1, high j (omega arith) (omega arith) few))

abbrev pub front_least : List ℕ
front_least = 40 ∷ 48 ∷ 48 ∷ 48 ∷ 48 ∷ 48 ∷ 48 ∷ 48 ∷ 48 ∷ 48 ∷ 48 ∷ 46 ∷ 48 ∷ 48 ∷ 48 ∷ 48 ∷ []

abbrev pub front_most : List ℕ
front_most = 40 ∷ 57 ∷ 57 ∷ 57 ∷ 57 ∷ 57 ∷ 57 ∷ 57 ∷ 57 ∷ 57 ∷ 57 ∷ 46 ∷ 57 ∷ 57 ∷ 57 ∷ 57 ∷ []

abbrev pub back_least : List ℕ
back_least = 48 ∷ 48 ∷ 48 ∷ 48 ∷ 48 ∷ 48 ∷ 48 ∷ 46 ∷ 48 ∷ 48 ∷ 48 ∷ 48 ∷ 48 ∷ 48 ∷ 41 ∷ 32 ∷ []

abbrev pub back_most : List ℕ
back_most = 57 ∷ 57 ∷ 57 ∷ 57 ∷ 57 ∷ 57 ∷ 57 ∷ 46 ∷ 57 ∷ 57 ∷ 57 ∷ 57 ∷ 57 ∷ 57 ∷ 41 ∷ 32 ∷ []

pub framed_within : (line : List ℕ) (word : ℕ) → 21 + word < length line
    → IsWithin line 0 front_least front_most → IsWithin line 4 back_least back_most
    → IsRunIn is_no_space line 20 8 word → 1 ≤ word → word ≤ 6 → (get_or line (21 + word) 0 == 32) ≡ false → IsFramed line (21 + word)
framed_within line word long front back name some few next =
    let one : (k : ℕ) → (b : ℕ) → b ≤ get_or line k 0 → get_or line k 0 ≤ b → get_or line k 0 ≡ b = λ k b p q. omega arith in
    let open_ : get_or line 0 0 ≡ 40 = one 0 40 (front 0 (omega arith)).0 (front 0 (omega arith)).1 in
    let dot : get_or line 11 0 ≡ 46 = one 11 46 (front 11 (omega arith)).0 (front 11 (omega arith)).1 in
    let close : get_or line 18 0 ≡ 41 = one 18 41 (back 14 (omega arith)).0 (back 14 (omega arith)).1 in
    let space : get_or line 19 0 ≡ 32 = one 19 32 (back 15 (omega arith)).0 (back 15 (omega arith)).1 in
    let seconds = digits_in line front_least front_most 0 1 11 front (all_at front_least 1 11 48 refl) (all_at front_most 1 11 57 refl) (omega arith) in
    let fraction = digits_in line back_least back_most 4 8 14 back (all_at back_least 8 14 48 refl) (all_at back_most 8 14 57 refl) (omega arith) in
    framed line word long open_
    (record { in_range = omega arith; pass = λ k p q. seconds k (omega arith) (omega arith); stops = λ _. ap is_digit dot })
    dot
    (record { in_range = omega arith; pass = λ k p q. fraction k (omega arith) (omega arith); stops = λ _. ap is_digit close })
    close space name some few next
