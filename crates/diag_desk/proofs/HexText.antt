-- Upper-case hex has one spelling: what decodes from upper-case digits is written back as it was.
use Rattle.std.proofs.Common.{◌≡◌, ℕ, suc, ◌+◌, ◌*◌, ◌/◌, ◌%◌, ◌<◌, ◌==◌, Bool, true, not, ◌&&◌, ◌||◌, List, [], ◌∷◌, length, nat_lt, slice_index, Option, Some, None, unwrap_or, Result, Ok, Err, refl, sym, ap, ◌∙◌, arith}
use Rattle.std.specs.List.{list_all}
use Rattle.std.specs.Result.{result_unwrap_or}
use Rattle.std.proofs.lemmas.Bool.{agree_below_at, and_parts, eqb-true}
use Rattle.hex.specs.Hex.{IsBytes, decode_of, decode_pairs, decode_sized, digit_or_error, encode_upper, encode_with, hex_digit_value, pair_value, upper_digits, value_at, ◌>>=◌}
use Rattle.hex.specs.declared.error.FromHexError.{FromHexError}
use Rattle.hex.proofs.HexLemmas.{decode_of-encode_upper, decode_of-ok, decode_sized-ok, decode_sized-twice, length-encode_with, decode_of-even}
use Rattle.diag_desk.specs.Entry.{IsMessage}
use Rattle.diag_desk.specs.Text.{is_upper_digit, upper_value}

-- each digit that is written is an upper-case one
digit_is_upper : (d : ℕ) → d < 16 → is_upper_digit (slice_index upper_digits d) ≡ true
digit_is_upper d below = agree_below_at (λ d. is_upper_digit (slice_index upper_digits d)) (λ _. true) 16 d refl below

-- the bytes of a small value are the digits
pub upper_small : (c : ℕ) → c < 256 → nat_lt (upper_value c) 16 ≡ is_upper_digit c
upper_small c byte = agree_below_at (λ c. nat_lt (upper_value c) 16) is_upper_digit 256 c refl byte

-- an upper-case digit is the one that its value is written as
abbrev is_spelled : ℕ → Bool
is_spelled c = not (is_upper_digit c) || (slice_index upper_digits (unwrap_or (hex_digit_value c) 0) == c)

upper_below : (c : ℕ) → is_upper_digit c ≡ true → c < 71
upper_below c h = grind arith

spelled : (c v : ℕ) → is_upper_digit c ≡ true → hex_digit_value c ≡ Some v → slice_index upper_digits v ≡ c
spelled c v upper value =
    let test : is_spelled c ≡ true = agree_below_at is_spelled (λ _. true) 71 c refl (upper_below c upper) in
    let same : (slice_index upper_digits (unwrap_or (hex_digit_value c) 0) == c) ≡ true = rw upper at test in
    let w : unwrap_or (hex_digit_value c) 0 ≡ v = ap (λ o. unwrap_or o 0) value in
    rw (← w) (eqb-true _ _ same)

-- what is written of bytes is upper-case
pub upper-encode : (bytes : List ℕ) → IsBytes bytes → list_all is_upper_digit (encode_upper bytes) ≡ true
unfolding encode_with
upper-encode [] h = refl
upper-encode (b ∷ bytes) h =
    let small = h 0 in
    rw (digit_is_upper (b / 16) (omega arith), digit_is_upper (b % 16) (omega arith)) (upper-encode bytes (λ i. h (suc i)))

-- the parts of an answer after a step
bind_ok : {A B : Type 0} (r : Result A FromHexError) (f : A → Result B FromHexError) (y : B)
    → (r >>= f) ≡ Ok y → (x : A) × (r ≡ Ok x) × (f x ≡ Ok y)
bind_ok (Ok x) f y h = (x, refl, h)
bind_ok (Err e) f y h = cc h

value_read : (c i : ℕ) (o : Option ℕ) (v : ℕ) → digit_or_error c i o ≡ Ok v → o ≡ Some v
value_read c i (Some w) v h = ap Some (ap (λ (r : Result ℕ FromHexError). result_unwrap_or r 0) h)
value_read c i None v h = cc h

value_small : (c v : ℕ) → hex_digit_value c ≡ Some v → v < 16
value_small c v h = grind arith

-- bytes that upper-case digits decode to are written as those digits
encode-decode_pairs : (i : ℕ) (s bytes : List ℕ) → list_all is_upper_digit s ≡ true → decode_pairs i s ≡ Ok bytes → encode_upper bytes ≡ s
unfolding decode_pairs encode_with
encode-decode_pairs i [] bytes upper h =
    let e : [] ≡ bytes = ap (λ (r : Result (List ℕ) FromHexError). result_unwrap_or r []) h in
    rw (← e) refl
encode-decode_pairs i (a ∷ []) bytes upper h = cc h
encode-decode_pairs i (a ∷ b ∷ rest) bytes upper h =
    let first = and_parts (is_upper_digit a) (is_upper_digit b && list_all is_upper_digit rest) upper in
    let second = and_parts (is_upper_digit b) (list_all is_upper_digit rest) first.1 in
    let p0 = bind_ok (pair_value a b i) _ bytes h in
    let p1 = bind_ok (value_at a i) _ p0.0 p0.1 in
    let p2 = bind_ok (value_at b (i + 1)) _ p0.0 p1.2 in
    let p3 = bind_ok (decode_pairs (i + 2) rest) _ bytes p0.2 in
    let e : p0.0 ∷ p3.0 ≡ bytes = ap (λ (r : Result (List ℕ) FromHexError). result_unwrap_or r []) p3.2 in
    let va = value_read a i (hex_digit_value a) p1.0 p1.1 in
    let vb = value_read b (i + 1) (hex_digit_value b) p2.0 p2.1 in
    let sa = value_small a p1.0 va in
    let sb = value_small b p2.0 vb in
    let byte : p1.0 * 16 + p2.0 ≡ p0.0 = ap (λ (r : Result ℕ FromHexError). result_unwrap_or r 0) p2.2 in
    let high : p0.0 / 16 ≡ p1.0 = omega arith in
    let low : p0.0 % 16 ≡ p2.0 = omega arith in
    rw (← e, high, low, spelled a p1.0 first.0 va, spelled b p2.0 second.0 vb, encode-decode_pairs (i + 2) rest p3.0 second.1 p3.1) refl

-- a text of upper-case digits that decodes into n bytes is what is written of them
pub encode-decode_sized : (s : List ℕ) (n : ℕ) (bytes : List ℕ) → list_all is_upper_digit s ≡ true → decode_sized s n ≡ Ok bytes → encode_upper bytes ≡ s
encode-decode_sized s n bytes upper h =
    let len = decode_sized-ok s n bytes h in
    let whole = sym (decode_sized-twice s n len) ∙ h in
    let even = (decode_of-ok s bytes whole).0 in
    encode-decode_pairs 0 s bytes upper (sym (decode_of-even s even) ∙ whole)

-- the text of a message: its length, its digits, and what it decodes to
pub text-message : (m text : List ℕ) → IsMessage m → encode_upper m ≡ text
    → (length text ≡ 2 * length m) × (list_all is_upper_digit text ≡ true) × (decode_sized text (length m) ≡ Ok m)
text-message m text h e =
    let len : length text ≡ 2 * length m = ap length (sym e) ∙ length-encode_with upper_digits m in (
      len,
      ap (list_all is_upper_digit) (sym e) ∙ upper-encode m h.2,
      decode_sized-twice text (length m) len ∙ ap decode_of (sym e)
          ∙ decode_of-encode_upper m h.2,
    )
