-- Numbers in decimal by two digits and by four.
use Rattle.std.proofs.Common.{◌≡◌, ℕ, ◌+◌, ◌/◌, ◌%◌, ◌^◌, ◌<◌, ◌≤◌, List, [], ◌∷◌, ◌++◌, sym, ap, ◌∙◌, append_assoc, arith, decimal}
pub use Rattle.std.proofs.lemmas.Fmt.{decimal_digit}
use Rattle.std.proofs.lemmas.Fmt.{decimal_step}
use Rattle.diag_can.specs.Reply.{two_digits}

pub decimal_two : (n : ℕ) → 10 ≤ n → n < 100 → decimal n ≡ two_digits n
decimal_two n some few =
    decimal_step n some (omega arith) ∙ ap (λ (front : List ℕ). front ++ (48 + n % 10) ∷ []) (decimal_digit (n / 10) (omega arith))

-- the last two digits
pub decimal_pair : (n : ℕ) → 100 ≤ n → n < 2 ^ 64 → decimal n ≡ decimal (n / 100) ++ two_digits (n % 100)
decimal_pair n some small =
    let last = decimal_step n (omega arith) small in
    let before = decimal_step (n / 10) (omega arith) (omega arith) in
    let front : n / 10 / 10 ≡ n / 100 = omega arith in
    let high : n / 10 % 10 ≡ n % 100 / 10 = omega arith in
    let low : n % 10 ≡ n % 100 % 10 = omega arith in
    last ∙ ap (λ (l : List ℕ). l ++ (48 + n % 10) ∷ []) before ∙ append_assoc (decimal (n / 10 / 10)) ((48 + n / 10 % 10) ∷ []) ((48 + n % 10) ∷ [])
    ∙ (λ i. decimal (front i) ++ ((48 + high i) ∷ (48 + low i) ∷ []))

-- the last four digits
pub decimal_four : (n : ℕ) → 10000 ≤ n → n < 2 ^ 64
    → decimal n ≡ (decimal (n / 10000) ++ two_digits (n % 10000 / 100)) ++ two_digits (n % 10000 % 100)
decimal_four n some small =
    let last = decimal_pair n (omega arith) small in
    let before = decimal_pair (n / 100) (omega arith) (omega arith) in
    let front : n / 100 / 100 ≡ n / 10000 = omega arith in
    let high : n / 100 % 100 ≡ n % 10000 / 100 = omega arith in
    let low : n % 100 ≡ n % 10000 % 100 = omega arith in
    last ∙ ap (λ (l : List ℕ). l ++ two_digits (n % 100)) before
    ∙ (λ i. (decimal (front i) ++ two_digits (high i)) ++ two_digits (low i))

-- a text with a number behind it, by its parts
pub pair_joined : (old text next : List ℕ) (n : ℕ) → 100 ≤ n → n < 10000 → text ≡ old ++ decimal (n / 100) → next ≡ text ++ two_digits (n % 100)
    → next ≡ old ++ decimal n
pair_joined old text next n some few t e =
    e ∙ ap (λ (l : List ℕ). l ++ two_digits (n % 100)) t ∙ append_assoc old (decimal (n / 100)) (two_digits (n % 100))
    ∙ ap (λ (l : List ℕ). old ++ l) (sym (decimal_pair n some (omega arith)))

pub four_joined : (old text next : List ℕ) (n : ℕ) → 10000 ≤ n → n < 2 ^ 64 → text ≡ old ++ decimal (n / 10000)
    → next ≡ (text ++ two_digits (n % 10000 / 100)) ++ two_digits (n % 10000 % 100) → next ≡ old ++ decimal n
four_joined old text next n some small t e =
    let high = two_digits (n % 10000 / 100) in
    let low = two_digits (n % 10000 % 100) in
    e ∙ append_assoc text high low ∙ ap (λ (l : List ℕ). l ++ (high ++ low)) t ∙ append_assoc old (decimal (n / 10000)) (high ++ low)
    ∙ ap (λ (l : List ℕ). old ++ l) (sym (append_assoc (decimal (n / 10000)) high low) ∙ sym (decimal_four n some small))

pub eight_joined : (old first text next : List ℕ) (n : ℕ) → 100000000 ≤ n → n < 2 ^ 64 → first ≡ old ++ decimal (n / 10000 / 10000)
    → text ≡ (first ++ two_digits (n / 10000 % 10000 / 100)) ++ two_digits (n / 10000 % 10000 % 100)
    → next ≡ (text ++ two_digits (n % 10000 / 100)) ++ two_digits (n % 10000 % 100) → next ≡ old ++ decimal n
eight_joined old first text next n some small f t e =
    four_joined old text next n (omega arith) small (four_joined old first text (n / 10000) (omega arith) (omega arith) f t) e
