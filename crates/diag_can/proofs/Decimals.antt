-- Numbers in decimal, with zeros before them.
use Rattle.std.proofs.Common.{◌≡◌, ℕ, zero, suc, ◌+◌, ◌-◌, ◌/◌, ◌%◌, ◌^◌, ◌<◌, ◌≤◌, true, List, [], ◌∷◌, ◌++◌, length, get_or, replicate, take, drop, length-append, append_assoc, inl, inr, refl, sym, ap, ◌∙◌, arith}
use Rattle.std.specs.Fmt.{decimal}
use Rattle.std.specs.Prelude.{codes}
use Rattle.std.specs.Str.{bytes_eq}
use Rattle.std.proofs.lemmas.Bool.{agree_below_at, cases_lt}
use Rattle.std.proofs.lemmas.Slice.Eq.{bytes_eq-Decides}
use Rattle.std.proofs.lemmas.Fmt.{decimal_digit, decimal_nonempty, decimal_step}
use Rattle.diag_can.proofs.Digits.{pow-suc}
use Rattle.diag_can.specs.Reply.{seconds_text, thousandths_text, two_digits, zero_filled}
use Rattle.diag_can.specs.declared.table.TheConstants.{DECIMALS}

-- so many of a number's last digits
abbrev pub last_digits : ℕ → ℕ → List ℕ
last_digits zero n = []
last_digits (suc width) n = last_digits width (n / 10) ++ (48 + n % 10) ∷ []

replicate-last : (k x : ℕ) → replicate k x ++ x ∷ [] ≡ x ∷ replicate k x
replicate-last zero x = refl
replicate-last (suc k) x = ap (λ (xs : List ℕ). x ∷ xs) (replicate-last k x)

-- a digit behind a number that is filled
fill-more : (width : ℕ) (front : List ℕ) (x : ℕ) → zero_filled (suc width) (front ++ x ∷ []) ≡ zero_filled width front ++ x ∷ []
fill-more width front x =
    let count : suc width - length (front ++ x ∷ []) ≡ width - length front = omega (arith, length-append front (x ∷ [])) in
    ap (λ (k : ℕ). replicate k 48 ++ (front ++ x ∷ [])) count ∙ sym (append_assoc (replicate (width - length front) 48) front (x ∷ []))

-- a number of one digit behind zeros
fill-one : (width x : ℕ) → zero_filled (suc (suc width)) (x ∷ []) ≡ zero_filled (suc width) (48 ∷ []) ++ x ∷ []
fill-one width x =
    let more : suc (suc width) - 1 ≡ suc width = omega arith in
    let less : suc width - 1 ≡ width = omega arith in
    rw (more, less) (ap (λ (xs : List ℕ). xs ++ x ∷ []) (sym (replicate-last width 48)))

-- a number with zeros before it is its last digits
pub zero_filled-digits : (width n : ℕ) → n < 10 ^ suc width → n < 2 ^ 64 → zero_filled (suc width) (decimal n) ≡ last_digits (suc width) n
zero_filled-digits zero n few small =
    let one = decimal_digit n (omega arith) in
    let same : n % 10 ≡ n = omega arith in
    rw (one, same) refl
zero_filled-digits (suc width) n few small =
    elim (cases_lt n 10) [
      | inl digit ↦
          let one = decimal_digit n digit in
          let same : n % 10 ≡ n = omega arith in
          let none : n / 10 ≡ 0 = omega arith in
          let front = zero_filled-digits width 0 (omega arith) (omega arith) in
          let zero_digit = decimal_digit 0 (omega arith) in
          ap (zero_filled (suc (suc width))) one ∙ fill-one width (48 + n)
          ∙ (let filled = sym (ap (zero_filled (suc width)) zero_digit) ∙ front in rw (none, same) (ap (λ (xs : List ℕ). xs ++ (48 + n) ∷ []) filled))
      | inr more ↦
          let step = decimal_step n (omega arith) small in
          let front = zero_filled-digits width (n / 10) (omega arith) (omega arith) in
          ap (zero_filled (suc (suc width))) step ∙ fill-more (suc width) (decimal (n / 10)) (48 + n % 10)
          ∙ ap (λ (xs : List ℕ). xs ++ (48 + n % 10) ∷ []) front
    ]

power-pos : (k : ℕ) → 1 ≤ 10 ^ k
power-pos zero = omega arith
power-pos (suc k) = omega (arith, power-pos k, pow-suc k)

-- a number of more than ten digits has no zeros before it
more_digits : (k n : ℕ) → 10 ^ k ≤ n → n < 2 ^ 64 → k < length (decimal n)
more_digits zero n le small = decimal_nonempty n small
more_digits (suc k) n le small =
    let ten : 10 ≤ n = (let some = power-pos k in omega (arith, pow-suc k)) in
    let fewer = more_digits k (n / 10) (omega (arith, pow-suc k)) (omega arith) in
    omega (arith, ap length (decimal_step n ten small), length-append (decimal (n / 10)) ((48 + n % 10) ∷ []))

pub zero_filled-long : (n : ℕ) → 10 ^ 10 ≤ n → n < 2 ^ 64 → zero_filled 10 (decimal n) ≡ decimal n
zero_filled-long n le small =
    let none : 10 - length (decimal n) ≡ 0 = (let long = more_digits 10 n le small in omega arith) in
    rw none refl

-- the digits of a late stamp are put together from their parts
pub digit_parts : (old seconds thousandths a b c d : List ℕ) → a ≡ old ++ seconds → b ≡ a ++ 46 ∷ [] → c ≡ b ++ thousandths → d ≡ c ++ codes "000"
    → d ≡ old ++ (seconds ++ codes "." ++ thousandths ++ codes "000")
digit_parts old seconds thousandths a b c d p q r s = rw (s, r, q, p) (simp append_assoc)

-- the digits of a stamp's two parts, without the brackets
pub seconds_digits : (n : ℕ) → n < 10 ^ 10 → take 11 (drop 1 (seconds_text n)) ≡ zero_filled 10 (decimal n) ++ codes "."
seconds_digits n few = rw (zero_filled-digits 9 n few (omega arith)) refl

pub thousandths_digits : (n : ℕ) → n < 1000 → take 6 (thousandths_text n) ≡ zero_filled 3 (decimal n) ++ codes "000"
thousandths_digits n few = rw (zero_filled-digits 2 n few (omega arith)) refl

-- ---- two digits at a time

pub decimals_at : (n : ℕ) → n < 100 → get_or DECIMALS n [] ≡ two_digits n
decimals_at n below =
    (bytes_eq-Decides (get_or DECIMALS n []) (two_digits n)).0 (agree_below_at (λ n. bytes_eq (get_or DECIMALS n []) (two_digits n)) (λ n. true) 100 n refl below)

-- so many pairs of a number's last digits
abbrev pub last_pairs : ℕ → ℕ → List ℕ
last_pairs zero n = []
last_pairs (suc count) n = last_pairs count (n / 100) ++ two_digits (n % 100)

abbrev double : ℕ → ℕ
double zero = zero
double (suc n) = suc (suc (double n))

pub last_two : (width n : ℕ) → last_digits (suc (suc width)) n ≡ last_digits width (n / 100) ++ two_digits (n % 100)
last_two width n =
    let front : n / 10 / 10 ≡ n / 100 = omega arith in
    let tens : n / 10 % 10 ≡ n % 100 / 10 = omega arith in
    let ones : n % 10 ≡ n % 100 % 10 = omega arith in
    rw (front, tens, ones) (append_assoc (last_digits width (n / 100)) ((48 + n % 100 / 10) ∷ []) ((48 + n % 100 % 10) ∷ []))

by_pairs : (count n : ℕ) → last_digits (double count) n ≡ last_pairs count n
by_pairs zero n = refl
by_pairs (suc count) n = last_two (double count) n ∙ ap (λ (xs : List ℕ). xs ++ two_digits (n % 100)) (by_pairs count (n / 100))

-- the two pairs of four digits
pub four_by_pairs : (n : ℕ) → n < 10 ^ 4 → zero_filled 4 (decimal n) ≡ (48 + n / 100 / 10) ∷ (48 + n / 100 % 10) ∷ two_digits (n % 100)
four_by_pairs n few =
    let first : n / 100 % 100 ≡ n / 100 = omega arith in
    rw first at (zero_filled-digits 3 n few (omega arith) ∙ by_pairs 2 n)

-- the five pairs of ten digits, by two and twice four
pub ten_by_pairs : (n : ℕ) → n < 10 ^ 10 → n < 2 ^ 64 → zero_filled 10 (decimal n)
    ≡ two_digits (n / 10 ^ 8) ++ two_digits (n % 10 ^ 8 / 10 ^ 4 / 100) ++ two_digits (n % 10 ^ 8 / 10 ^ 4 % 100) ++ two_digits (n % 10 ^ 8 % 10 ^ 4 / 100)
    ++ two_digits (n % 10 ^ 8 % 10 ^ 4 % 100)
ten_by_pairs n few small =
    let a : n / 100 / 100 / 100 / 100 % 100 ≡ n / 10 ^ 8 = omega arith in
    let b : n / 100 / 100 / 100 % 100 ≡ n % 10 ^ 8 / 10 ^ 4 / 100 = omega arith in
    let c : n / 100 / 100 % 100 ≡ n % 10 ^ 8 / 10 ^ 4 % 100 = omega arith in
    let d : n / 100 % 100 ≡ n % 10 ^ 8 % 10 ^ 4 / 100 = omega arith in
    let e : n % 100 ≡ n % 10 ^ 8 % 10 ^ 4 % 100 = omega arith in
    rw (a, b, c, d, e) at (zero_filled-digits 9 n few small ∙ by_pairs 5 n)

-- a digit and a pair
pub three_by_pairs : (n : ℕ) → n < 1000 → zero_filled 3 (decimal n) ≡ (48 + n / 100) ∷ two_digits (n % 100)
three_by_pairs n few =
    let digit : n / 100 % 10 ≡ n / 100 = omega arith in
    zero_filled-digits 2 n few (omega arith) ∙ last_two 1 n ∙ ap (λ (d : ℕ). (48 + d) ∷ two_digits (n % 100)) digit
