-- What is written in upper-case hex.
use Rattle.std.proofs.Common.{◌≡◌, ℕ, zero, suc, ◌+◌, ◌-◌, ◌*◌, ◌/◌, ◌%◌, ◌<◌, ◌≤◌, true, cond, eqb, List, [], ◌∷◌, ◌++◌, map, length, take, drop, get_or, slice_index, refl, sym, ap, subst, ◌∙◌, append_assoc, append-nil, length-append, arith, false, nat_lt}
use Rattle.std.proofs.lemmas.List.{take_all, take_at, take-append-drop, take-append-le, drop_at, length-take, length-drop}
use Rattle.std.proofs.lemmas.Bool.{agree_below_at, eqb-true}
use Rattle.std.proofs.lemmas.Bool.Decides.{nat_tests}
use Rattle.std.proofs.lemmas.Simd.{swz_l, SwzOk, SwzOk-from_below, pick_l_whole}
use Rattle.std.proofs.Math.Seq.{take-append-add}
use lib.Lanes.{pick_l, Each1}
use mir.Syntax.{w8}
use mir.Val.{Fits, zeroes}
use Rattle.std.proofs.lemmas.Slice.Eq.{bytes_eq-Decides}
use Rattle.std.specs.Fmt.{digits}
use Rattle.std.specs.Prelude.{codes}
use Rattle.std.specs.Str.{bytes_eq}
use Rattle.hex.specs.Hex.{encode_upper, encode_with, upper_digits}
use Rattle.hex.proofs.HexLemmas.{length-encode_with}
use Rattle.diag_can.specs.Identifier.{number_of}
use Rattle.diag_can.specs.Reply.{zero_filled, four_bytes, id_text}
use Rattle.std.proofs.lemmas.Slice.{take-put_mid}
use borrow.Rule.Slice.PartMut.{put_mid}
use Rattle.diag_can.specs.declared.table.TheConstants.{DIGITS}

-- the hex of two parts
pub upper-parts : (a b : List ℕ) → encode_upper (a ++ b) ≡ encode_upper a ++ encode_upper b
unfolding encode_with
upper-parts [] b = refl
upper-parts (x ∷ a) b = ap (λ text. slice_index upper_digits (x / 16) ∷ slice_index upper_digits (x % 16) ∷ text) (upper-parts a b)

-- eight bytes more, and what is left
pub upper_eight : (text next rest eight tail whole : List ℕ) → text ++ encode_upper rest ≡ whole → eight ≡ take 8 rest → tail ≡ drop 8 rest
    → next ≡ text ++ encode_upper eight → next ++ encode_upper tail ≡ whole
upper_eight text next rest eight tail whole w e t n =
    let both : eight ++ tail ≡ rest = (λ i. e i ++ t i) ∙ take-append-drop 8 rest in
    ap (λ x. x ++ encode_upper tail) n ∙ append_assoc text (encode_upper eight) (encode_upper tail)
    ∙ ap (λ x. text ++ x) (sym (upper-parts eight tail) ∙ ap encode_upper both) ∙ w

-- two digits, one by one
pub two_digits : (pair : List ℕ) (b : ℕ) → pair ≡ encode_upper (b ∷ []) → get_or pair 0 0 ∷ get_or pair 1 0 ∷ [] ≡ encode_upper (b ∷ [])
unfolding encode_with
two_digits pair b is = rw is refl

-- two bytes, and three, one by one
pub two_written : (old first next x y bytes : List ℕ) → length bytes ≡ 2
    → x ≡ encode_upper (get_or bytes 0 0 ∷ []) → y ≡ encode_upper (get_or bytes 1 0 ∷ [])
    → first ≡ old ++ x → next ≡ first ++ y → next ≡ old ++ encode_upper bytes
two_written old first next x y [] two p q f n = cc two
two_written old first next x y (a ∷ []) two p q f n = absurd (omega (arith, two))
two_written old first next x y (a ∷ b ∷ []) two p q f n =
    n ∙ (λ i. (f i ++ y)) ∙ (λ i. (old ++ p i) ++ q i) ∙ append_assoc old (encode_upper (a ∷ [])) (encode_upper (b ∷ []))
    ∙ ap (λ (t : List ℕ). old ++ t) (sym (upper-parts (a ∷ []) (b ∷ [])))
two_written old first next x y (a ∷ b ∷ c ∷ rest) two p q f n = absurd (omega (arith, two))

pub three_written : (old first second next x y z bytes : List ℕ) → length bytes ≡ 3
    → x ≡ encode_upper (get_or bytes 0 0 ∷ []) → y ≡ encode_upper (get_or bytes 1 0 ∷ []) → z ≡ encode_upper (get_or bytes 2 0 ∷ [])
    → first ≡ old ++ x → second ≡ first ++ y → next ≡ second ++ z → next ≡ old ++ encode_upper bytes
three_written old first second next x y z [] three p q r f s n = cc three
three_written old first second next x y z (a ∷ []) three p q r f s n = absurd (omega (arith, three))
three_written old first second next x y z (a ∷ b ∷ []) three p q r f s n = absurd (omega (arith, three))
three_written old first second next x y z (a ∷ b ∷ c ∷ []) three p q r f s n =
    n ∙ (λ i. two_written old first second x y (a ∷ b ∷ []) refl p q f s i ++ r i)
    ∙ append_assoc old (encode_upper (a ∷ b ∷ [])) (encode_upper (c ∷ []))
    ∙ ap (λ (t : List ℕ). old ++ t) (sym (upper-parts (a ∷ b ∷ []) (c ∷ [])))
three_written old first second next x y z (a ∷ b ∷ c ∷ d ∷ rest) three p q r f s n = absurd (omega (arith, three))

pub none_written : (old bytes : List ℕ) → length bytes ≡ 0 → old ≡ old ++ encode_upper bytes
unfolding encode_with
none_written old [] none = sym (append-nil old)
none_written old (b ∷ bytes) none = cc none

-- the table's digits of a byte
pub digits_at : (b : ℕ) → b < 256 → get_or DIGITS b [] ≡ encode_upper (b ∷ [])
unfolding encode_with
digits_at b byte =
    (bytes_eq-Decides (get_or DIGITS b []) (encode_upper (b ∷ []))).0
    (agree_below_at (λ b. bytes_eq (get_or DIGITS b []) (encode_upper (b ∷ []))) (λ b. true) 256 b refl byte)

-- the three digits of an identifier
abbrev three : ℕ → List ℕ
three n = (48 + n / 256) ∷ encode_upper ((n % 256) ∷ [])

pub three_digits : (n : ℕ) → n < 2048 → zero_filled 3 (digits 16 true n) ≡ three n
unfolding digits encode_with
three_digits n below =
    (bytes_eq-Decides (zero_filled 3 (digits 16 true n)) (three n)).0
    (agree_below_at (λ n. bytes_eq (zero_filled 3 (digits 16 true n)) (three n)) (λ n. true) 2048 n refl below)

-- the digit of four bits
pub flags_digit : (n : ℕ) → n < 16 → digits 16 true n ≡ get_or (encode_upper (n ∷ [])) 1 0 ∷ []
unfolding digits encode_with
flags_digit n below =
    (bytes_eq-Decides (digits 16 true n) (get_or (encode_upper (n ∷ [])) 1 0 ∷ [])).0
    (agree_below_at (λ n. bytes_eq (digits 16 true n) (get_or (encode_upper (n ∷ [])) 1 0 ∷ [])) (λ n. true) 16 n refl below)

-- those digits, one by one
pub three_parts : (id text : List ℕ) (n : ℕ) → n < 2048 → id ≡ zero_filled 3 (digits 16 true n)
    → get_or id 0 0 ∷ get_or id 1 0 ∷ get_or id 2 0 ∷ text ≡ zero_filled 3 (digits 16 true n) ++ text
unfolding encode_with
three_parts id text n below is = rw (is, three_digits n below) refl

-- ---- the digits of eight bytes, looked at together

-- a digit, as one lane is looked up
abbrev lane : ℕ → ℕ
lane n = cond (zeroes 16 w8 n) 0 (get_or upper_digits (0 + n) 0)

abbrev lanes : List ℕ → List ℕ
lanes [] = []
lanes (b ∷ bytes) = lane (b / 16) ∷ lane (b % 16) ∷ lanes bytes

lane-is : (n : ℕ) → n < 16 → lane n ≡ slice_index upper_digits n
lane-is n below = eqb-true (lane n) (slice_index upper_digits n) (agree_below_at (λ n. eqb (lane n) (slice_index upper_digits n)) (λ n. true) 16 n refl below)

lanes-are : (bytes : List ℕ) → Each1 (Fits w8) bytes → lanes bytes ≡ encode_upper bytes
unfolding encode_with
lanes-are [] fits = refl
lanes-are (b ∷ bytes) fits =
    let byte = fits.0.fits in
    let high = lane-is (b / 16) (omega arith) in
    let low = lane-is (b % 16) (omega arith) in
    rw (high, low) (ap (λ text. slice_index upper_digits (b / 16) ∷ slice_index upper_digits (b % 16) ∷ text) (lanes-are bytes fits.1))

-- the halves of the bytes in their order
abbrev halves : List ℕ → List ℕ → List ℕ
halves high low = pick_l 0 (high ++ low) (0 ∷ 8 ∷ 1 ∷ 9 ∷ 2 ∷ 10 ∷ 3 ∷ 11 ∷ 4 ∷ 12 ∷ 5 ∷ 13 ∷ 6 ∷ 14 ∷ 7 ∷ 15 ∷ [])

-- the halves of each byte, which are below 16
abbrev values : List ℕ → List ℕ
values [] = []
values (b ∷ bytes) = (b / 16) ∷ (b % 16) ∷ values bytes

values-below : (bytes : List ℕ) → Each1 (Fits w8) bytes → Each1 (λ j. j < 16) (values bytes)
values-below [] fits = tt
values-below (b ∷ bytes) fits = (let byte = fits.0.fits in omega arith, (omega arith, values-below bytes fits.1))

-- what the lanes make of the halves of the bytes
abbrev IsLookedUp : List ℕ → Type 0
IsLookedUp v = let js = halves (map (λ x. x / 16) v) (map (λ x. x % 16) v) in
    Each1 (Fits w8) v → (swz_l w8 16 upper_digits 0 js ≡ encode_upper v) × SwzOk w8 16 16 0 js

looked_up : (a b c d e f g h : ℕ) → IsLookedUp (a ∷ b ∷ c ∷ d ∷ e ∷ f ∷ g ∷ h ∷ [])
looked_up a b c d e f g h fits =
    let v : List ℕ = a ∷ b ∷ c ∷ d ∷ e ∷ f ∷ g ∷ h ∷ [] in
    (lanes-are v fits, SwzOk-from_below w8 16 1 16 0 (values v) refl (omega arith) (values-below v fits))

pub eight_digits : (v high low : List ℕ) → length v ≡ 8 → Each1 (Fits w8) v → high ≡ map (λ x. x / 16) v → low ≡ map (λ x. x % 16) v
    → (swz_l w8 16 upper_digits 0 (halves high low) ≡ encode_upper v) × SwzOk w8 16 16 0 (halves high low)
eight_digits v high low eight fits h l = rw (h, l) (subst IsLookedUp (pick_l_whole 0 v 8 eight) (looked_up _ _ _ _ _ _ _ _) fits)

-- ---- the digits behind a frame's length are taken back

pub upper-take : (n : ℕ) (bytes : List ℕ) → take (2 * n) (encode_upper bytes) ≡ encode_upper (take n bytes)
unfolding encode_with
upper-take zero bytes = refl
upper-take (suc n) [] = take_all (2 * suc n) [] (omega arith)
upper-take (suc n) (b ∷ bytes) =
    let more : 2 * suc n ≡ suc (suc (2 * n)) = omega arith in
    rw more (ap (λ text. slice_index upper_digits (b / 16) ∷ slice_index upper_digits (b % 16) ∷ text) (upper-take n bytes))

pub taken_back : (a b digits places bytes : List ℕ) (end : ℕ) → b ≡ a ++ digits → digits ≡ encode_upper places → take (length bytes) places ≡ bytes
    → end ≡ length a + 2 * length bytes → take end b ≡ a ++ encode_upper bytes
taken_back a b digits places bytes end p q r s =
    rw (s, p, q) (take-append-add a (encode_upper places) (2 * length bytes)
    ∙ ap (λ (t : List ℕ). a ++ t) (upper-take (length bytes) places ∙ ap encode_upper r))

-- the first four bytes, of which what is too much is taken back, and then the last four
pub ends_written : (old first cut all digits ends bytes : List ℕ) (end : ℕ) → 4 ≤ length bytes → length bytes ≤ 8
    → ends ≡ take 4 bytes ++ drop (length bytes - 4) bytes → digits ≡ encode_upper ends → first ≡ old ++ take 8 digits
    → end ≡ length old + 2 * (length bytes - 4) → cut ≡ take end first → all ≡ cut ++ take 8 (drop 8 digits) → all ≡ old ++ encode_upper bytes
ends_written old first cut all digits ends bytes end some few e d f b c a =
    let n : ℕ = length bytes - 4 in
    let front = take 4 bytes in
    let back = drop n bytes in
    let four : length front ≡ 4 = omega (arith, length-take 4 bytes) in
    let eight : length (encode_upper front) ≡ 8 = omega (arith, length-encode_with upper_digits front) in
    let halves : digits ≡ encode_upper front ++ encode_upper back = d ∙ ap encode_upper e ∙ upper-parts front back in
    let count : length (take n bytes) ≡ n = omega (arith, length-take n bytes) in
    let kept : take (length (take n bytes)) front ≡ take n bytes =
    ap (λ (i : ℕ). take i front) count ∙ sym (take-append-le n front (drop 4 bytes) (omega (arith, four)))
    ∙ ap (λ (l : List ℕ). take n l) (take-append-drop 4 bytes) in
    let cut_is = c ∙ taken_back old first (take 8 digits) front (take n bytes) end f
    (ap (take 8) halves ∙ take_at (encode_upper front) (encode_upper back) 8 eight) kept (omega (arith, b, count)) in
    let whole = take_all 8 (encode_upper back) (omega (arith, length-encode_with upper_digits back, length-drop n bytes)) in
    let last_is = ap (λ (l : List ℕ). take 8 (drop 8 l)) halves
    ∙ ap (λ (l : List ℕ). take 8 l) (drop_at (encode_upper front) (encode_upper back) 8 eight) ∙ whole in
    a ∙ (λ i. cut_is i ++ last_is i)
    ∙ append_assoc old (encode_upper (take n bytes)) (encode_upper back)
    ∙ ap (λ (text : List ℕ). old ++ text) (sym (upper-parts (take n bytes) back) ∙ ap encode_upper (take-append-drop n bytes))

-- ---- the front of a reply line behind its stamp

-- a name and what stands behind it, written over some bytes
pub front_is : (name copied rest behind : List ℕ) (k : ℕ) → copied ≡ name
    → take (length name + length behind) (put_mid (length name) k (copied ++ rest) behind) ≡ name ++ behind
front_is name copied rest behind k same =
    let count = ap length same in
    take-put_mid (length name) k (copied ++ rest) behind (length name + length behind) refl (omega (arith, count, length-append copied rest))
    ∙ ap (λ (t : List ℕ). t ++ behind) (take_at copied rest (length name) count ∙ same)

-- the text of an identifier of 11 bits
pub short_text : (n : ℕ) → n < 2048 → id_text n ≡ zero_filled 3 (digits 16 true n)
short_text n below = let short : nat_lt n 2048 ≡ true = grind (arith, nat_tests) in rw short refl

-- a name, a space, the digits of an identifier of 11 bits and what stands behind them
pub id_front : (name id mark : List ℕ) (n : ℕ) → n < 2048 → id ≡ zero_filled 3 (digits 16 true n)
    → name ++ 32 ∷ get_or id 0 0 ∷ get_or id 1 0 ∷ get_or id 2 0 ∷ mark ≡ name ++ codes " " ++ id_text n ++ mark
id_front name id mark n below is =
    ap (λ (t : List ℕ). name ++ 32 ∷ t) (three_parts id mark n below is ∙ ap (λ (t : List ℕ). t ++ mark) (sym (short_text n below)))
    ∙ sym (append_assoc (name ++ 32 ∷ []) (id_text n) mark ∙ append_assoc name (32 ∷ []) (id_text n ++ mark))

-- the text of one of 29 bits
pub wide_text : (n : ℕ) → 2048 ≤ n → id_text n ≡ encode_upper (four_bytes (number_of n))
wide_text n above = let wide : nat_lt n 2048 ≡ false = grind (arith, nat_tests) in rw wide refl

-- the pairs of four bytes, one digit behind the other
pub four_pairs : (p q r s : List ℕ) (i j k l : ℕ) → p ≡ encode_upper (i ∷ []) → q ≡ encode_upper (j ∷ []) → r ≡ encode_upper (k ∷ []) → s ≡ encode_upper (l ∷ [])
    → get_or p 0 0 ∷ get_or p 1 0 ∷ get_or q 0 0 ∷ get_or q 1 0 ∷ get_or r 0 0 ∷ get_or r 1 0 ∷ get_or s 0 0 ∷ get_or s 1 0 ∷ []
    ≡ encode_upper (i ∷ j ∷ k ∷ l ∷ [])
unfolding encode_with
four_pairs p q r s i j k l a b c d = rw (a, b, c, d) refl

-- a line is put together from its parts, one by one
pub line_pieces : (old stamped name id mark hex a b c d e f : List ℕ) → a ≡ old → b ≡ a ++ (stamped ++ codes " ") → c ≡ b ++ name → d ≡ c ++ (codes " " ++ id)
    → e ≡ d ++ mark → f ≡ e ++ (hex ++ codes "\n") → f ≡ old ++ (stamped ++ codes " " ++ name ++ codes " " ++ (id ++ mark ++ hex) ++ codes "\n")
line_pieces old stamped name id mark hex a b c d e f p q r s t u = rw (u, t, s, r, q, p) (simp append_assoc)

-- with a front that is kept
pub line_parts : (old stamped name id mark hex a b c d : List ℕ) → a ≡ old → b ≡ a ++ (stamped ++ codes " ") → c ≡ b ++ (name ++ codes " " ++ id ++ mark)
    → d ≡ c ++ (hex ++ codes "\n") → d ≡ old ++ (stamped ++ codes " " ++ name ++ codes " " ++ (id ++ mark ++ hex) ++ codes "\n")
line_parts old stamped name id mark hex a b c d p q r s = rw (s, r, q, p) (simp append_assoc)

-- what was put behind a text is taken off
pub taken_off : (old x y a b c cut : List ℕ) (n : ℕ) → n ≡ length old → a ≡ old → b ≡ a ++ x → c ≡ b ++ y → cut ≡ take n c → cut ≡ old
taken_off old x y a b c cut n size p q r s = rw (s, r, q, p, append_assoc) (take_at old (x ++ y) n (sym size))
