-- How large a number of so many decimal digits is.
use Rattle.std.proofs.Common.{◌≡◌, ℕ, suc, ◌+◌, ◌-◌, ◌*◌, ◌%◌, ◌^◌, ◌<◌, ◌≤◌, true, false, List, [], ◌∷◌, length, get_or, take, fold, refl, sym, ap, ◌∙◌, below_more, arith}
use Rattle.std.specs.List.{AllPass, prefix_len}
use Rattle.std.proofs.lemmas.Grind.{get_or_default_zero}
use Rattle.std.proofs.lemmas.List.{get_or-take, length-take-le}
use Rattle.std.proofs.lemmas.List.Sums.{fold_more, prefix_len_is}
use Rattle.std.proofs.lemmas.List.Elements.{All-tail}
use Rattle.std.proofs.lemmas.Bool.Decides.{nat_tests}
use Rattle.std.proofs.Math.Nat.{pow-le-pow_right, mul-le-mul_right}
use Rattle.diag_can.specs.Stamp.{is_digit, decimal_value}

is_digit-le : (c : ℕ) → is_digit c ≡ true → c ≤ 57
is_digit-le c h = grind (arith, nat_tests)

pub pow-suc : (n : ℕ) → 10 ^ suc n ≡ 10 * 10 ^ n
pow-suc n = omega arith

fold-digits-lt : (n : ℕ) (digits : List ℕ) → AllPass is_digit digits → fold (λ n c. n * 10 + (c - 48)) n digits < (n + 1) * 10 ^ length digits
fold-digits-lt n [] all = omega arith
fold-digits-lt n (c ∷ digits) all =
    let digit : c ≤ 57 = is_digit-le c (all 0 0 (omega arith)) in
    let more = fold-digits-lt (n * 10 + (c - 48)) digits (All-tail (λ c. is_digit c ≡ true) c digits all) in
    let at_most : (n * 10 + (c - 48) + 1) * 10 ^ length digits ≤ (10 * (n + 1)) * 10 ^ length digits = mul-le-mul_right (10 ^ length digits) (omega arith) in
    let step = pow-suc (length digits) in
    rw step (omega arith)

pub decimal_value-lt : (most : ℕ) (digits : List ℕ) → AllPass is_digit digits → length digits ≤ most → decimal_value digits < 10 ^ most
decimal_value-lt most digits all few =
    let below = fold-digits-lt 0 digits all in
    let wide : 10 ^ length digits ≤ 10 ^ most = pow-le-pow_right (omega arith) few in
    omega arith

-- so many digits stand at the front, and write this number where they are at most 12
pub record IsRun (text : List ℕ) (count value : ℕ) : Type 0 where
  pub digits : (k : ℕ) → k < count → is_digit (get_or text k 0) ≡ true
  pub value_is : count ≤ 12 → value ≡ decimal_value (take count text)

pub run-none : (text : List ℕ) → IsRun text 0 0
run-none text = record { digits = λ k lt. absurd (omega arith); value_is = λ le. refl }

-- the digits of a run
run-digits : (text : List ℕ) (count value : ℕ) → count ≤ length text → IsRun text count value → AllPass is_digit (take count text)
run-digits text count value fits r = λ k d lt.
    let inside : k < count = omega (arith, lt, length-take-le count text fits) in
    ap is_digit (get_or-take count text k d inside ∙ get_or_default_zero text k d (omega (arith, inside, fits))) ∙ r.digits k inside

-- one digit more
pub run-more : (text : List ℕ) (count value next : ℕ) → count < length text → is_digit (get_or text count 0) ≡ true
    → next ≡ (value * 10 % 2 ^ 64 + (get_or text count 0 - 48)) % 2 ^ 64 → IsRun text count value → IsRun text (count + 1) next
run-more text count value next below digit is r = record {
  digits = below_more (λ k. is_digit (get_or text k 0) ≡ true) count r.digits digit;
  value_is = λ le.
      let before = r.value_is (omega arith) in
      let small = decimal_value-lt 12 (take count text) (run-digits text count value (omega arith) r)
      (omega (arith, length-take-le count text (omega arith))) in
      let nine = is_digit-le (get_or text count 0) digit in
      let step : decimal_value (take (count + 1) text) ≡ decimal_value (take count text) * 10 + (get_or text count 0 - 48) =
      fold_more (λ n c. n * 10 + (c - 48)) 0 text count 0 below in
      omega (arith, before, small, nine, step, is);
}

pub run-count : (text : List ℕ) (count value : ℕ) → count < length text → is_digit (get_or text count 0) ≡ false → IsRun text count value
    → count ≡ prefix_len is_digit text
run-count text count value below stop r = sym (prefix_len_is is_digit text count 0 (omega arith) r.digits (λ lt. stop))

pub run-all : (text : List ℕ) (value : ℕ) → IsRun text (length text) value → length text ≡ prefix_len is_digit text
run-all text value r = sym (prefix_len_is is_digit text (length text) 0 (omega arith) r.digits (λ lt. absurd (omega arith)))
