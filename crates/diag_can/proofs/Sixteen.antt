-- The bytes of hex digits that are looked at together.
use Rattle.std.proofs.Common.{◌≡◌, ℕ, zero, suc, ◌+◌, ◌-◌, ◌*◌, ◌%◌, ◌<◌, ◌≤◌, eqb, leb, true, cond, List, [], ◌∷◌, ◌++◌, append-nil, take-append-drop, map, length, length-take-le, take, drop, get_or, replicate, Fits, w8, length-drop, drop-drop, unwrap_or, is_some, Option, Some, None, Ok, refl, sym, ap, subst, ◌∙◌, arith}
use Rattle.std.specs.Prelude.{IsOk}
use Rattle.std.specs.List.{AllPass}
use Rattle.std.proofs.lemmas.Bool.{agree_below_at, eqb-true}
use Rattle.std.proofs.lemmas.Simd.{Each1-get_or, pick_l_whole}
use Rattle.std.proofs.lemmas.List.{drop_all, take_all, get_or-drop}
use Rattle.std.proofs.lemmas.Slice.{drop-put_mid, take-put_mid}
use Rattle.std.proofs.Math.Seq.{drop-append-add}
use borrow.Rule.Slice.PartMut.{put_mid}
use lib.Lanes.{Each1, chunk, zip2, sel_l, top, pick_l}
use Rattle.hex.specs.Hex.{is_hex_digit, hex_digit_value, decode_of, decode_pairs}
use Rattle.hex.proofs.HexLemmas.{decode_of-even, decode_of-ok}
use Rattle.diag_can.proofs.Pairs.{is_ok-value, pair_value-some, value-lt}

-- a digit's value, as one lane finds it
abbrev lane : ℕ → ℕ
lane c = (c % 16 + cond (top 7 (cond (leb 64 c) 255 0)) 9 0) % 256

lane-is : (c v : ℕ) → c < 256 → hex_digit_value c ≡ Some v → lane c ≡ v
lane-is c v byte is =
    let tested : eqb (unwrap_or (hex_digit_value c) (lane c)) (lane c) ≡ true =
    agree_below_at (λ c. eqb (unwrap_or (hex_digit_value c) (lane c)) (lane c)) (λ c. true) 256 c refl byte in
    sym (eqb-true _ _ tested) ∙ ap (λ (o : Option ℕ). unwrap_or o (lane c)) is

-- the bytes of the pairs
abbrev pub both : List ℕ → List ℕ
both [] = []
both (c ∷ []) = []
both (c ∷ d ∷ text) = ((lane c * 16 % 256 + lane d) % 256) ∷ both text

value_of : (o : Option ℕ) → is_some o ≡ true → (v : ℕ) × (o ≡ Some v)
value_of None is = cc is
value_of (Some v) is = (v, refl)

decode-both : (i : ℕ) (text : List ℕ) → length text % 2 ≡ 0 → AllPass is_hex_digit text → ((k : ℕ) → k < length text → Fits w8 (get_or text k 0))
    → decode_pairs i text ≡ Ok (both text)
unfolding decode_pairs
decode-both i [] even all fits = refl
decode-both i (c ∷ []) even all fits = absurd (omega arith)
decode-both i (c ∷ d ∷ text) even all fits =
    let v = value_of (hex_digit_value c) (all 0 0 (omega arith)) in
    let w = value_of (hex_digit_value d) (all 1 0 (omega arith)) in
    let pair = pair_value-some c d i v.0 w.0 v.1 w.1 in
    let rest = decode-both (i + 2) text (omega arith) (λ k x lt. all (suc (suc k)) x (omega arith)) (λ k lt. fits (suc (suc k)) (omega arith)) in
    let high = lane-is c v.0 (fits 0 (omega arith)).fits v.1 in
    let low = lane-is d w.0 (fits 1 (omega arith)).fits w.1 in
    let h = value-lt c (fits 0 (omega arith)).fits v.0 v.1 in
    let l = value-lt d (fits 1 (omega arith)).fits w.0 w.1 in
    let byte : (lane c * 16 % 256 + lane d) % 256 ≡ v.0 * 16 + w.0 = rw (high, low) (omega arith) in
    rw (pair, rest, byte) refl

drop-both : (k : ℕ) (text : List ℕ) → drop k (both text) ≡ both (drop (2 * k) text)
drop-both zero text = refl
drop-both (suc k) [] = let more : 2 * suc k ≡ suc (suc (2 * k)) = omega arith in rw more refl
drop-both (suc k) (c ∷ []) = let more : 2 * suc k ≡ suc (suc (2 * k)) = omega arith in rw more refl
drop-both (suc k) (c ∷ d ∷ text) = let more : 2 * suc k ≡ suc (suc (2 * k)) = omega arith in rw more (drop-both k text)

take-both : (k : ℕ) (text : List ℕ) → take k (both text) ≡ both (take (2 * k) text)
take-both zero text = refl
take-both (suc k) [] = let more : 2 * suc k ≡ suc (suc (2 * k)) = omega arith in rw more refl
take-both (suc k) (c ∷ []) = let more : 2 * suc k ≡ suc (suc (2 * k)) = omega arith in rw more refl
take-both (suc k) (c ∷ d ∷ text) =
    let more : 2 * suc k ≡ suc (suc (2 * k)) = omega arith in
    rw more (ap (λ (bytes : List ℕ). ((lane c * 16 % 256 + lane d) % 256) ∷ bytes) (take-both k text))

-- those of sixteen digits, and of the others
pub both-sixteen : (text : List ℕ) → both (take 16 text) ++ both (drop 16 text) ≡ both text
both-sixteen text = (λ i. sym (take-both 8 text) i ++ sym (drop-both 8 text) i) ∙ take-append-drop 8 (both text)

pub decode_of-both : (text : List ℕ) → length text % 2 ≡ 0 → AllPass is_hex_digit text → ((k : ℕ) → k < length text → Fits w8 (get_or text k 0))
    → decode_of text ≡ Ok (both text)
decode_of-both text even all fits = decode_of-even text even ∙ decode-both 0 text even all fits

-- what the lanes make of sixteen digits
abbrev values : List ℕ → List ℕ
values w = zip2 (λ a b. (a + b) % 256) (zip2 (λ a b. a % b) w (replicate 16 16))
    (sel_l (map (top 7) (zip2 (λ a b. cond (leb a b) 255 0) (replicate 16 64) w)) (replicate 16 9) (replicate 16 0))

abbrev pub looked : List ℕ → List ℕ
looked w =
    let high = pick_l 0 (values w ++ values w) (0 ∷ 2 ∷ 4 ∷ 6 ∷ 8 ∷ 10 ∷ 12 ∷ 14 ∷ []) in
    let low = pick_l 0 (values w ++ values w) (1 ∷ 3 ∷ 5 ∷ 7 ∷ 9 ∷ 11 ∷ 13 ∷ 15 ∷ []) in
    zip2 (λ a b. (a + b) % 256) (zip2 (λ a b. a * b % 256) high (replicate 8 16)) low

looked-is : (a b c d e f g h i j k l m n o p : ℕ) → let w : List ℕ = a ∷ b ∷ c ∷ d ∷ e ∷ f ∷ g ∷ h ∷ i ∷ j ∷ k ∷ l ∷ m ∷ n ∷ o ∷ p ∷ [] in looked w ≡ both w
looked-is a b c d e f g h i j k l m n o p = refl

pub digits_read : (w : List ℕ) → length w ≡ 16 → Each1 (Fits w8) w
    → (n : ℕ) → n ≤ 8 → IsOk (decode_of (drop (16 - 2 * n) w)) → decode_of (drop (16 - 2 * n) w) ≡ Ok (drop (8 - n) (looked w))
digits_read w sixteen fits n few ok =
    let at : ℕ = 16 - 2 * n in
    let text = drop at w in
    let value = is_ok-value (decode_of text) ok in
    let all = decode_of-ok text value.0 value.1 in
    let k : ℕ = 8 - n in
    let lanes : looked w ≡ both w = subst (λ (w : List ℕ). looked w ≡ both w) (pick_l_whole 0 w 16 sixteen) (looked-is _ _ _ _ _ _ _ _ _ _ _ _ _ _ _ _) in
    let start : 2 * k ≡ at = omega arith in
    let same : drop (2 * k) w ≡ text = ap (λ (n : ℕ). drop n w) start in
    let fit : (j : ℕ) → j < length text → Fits w8 (get_or text j 0) = λ j lt.
    subst (Fits w8) (sym (get_or-drop at w j 0)) (Each1-get_or (Fits w8) w (at + j) 0 (omega (arith, length-drop at w)) fits) in
    decode_of-even text all.0 ∙ decode-both 0 text all.0 all.1 fit
    ∙ ap Ok (sym (ap (drop k) lanes ∙ drop-both k w ∙ ap both same))

-- the last of a line are the last of its last sixteen bytes
pub last_sixteen : (line : List ℕ) → 16 ≤ length line → (n : ℕ) → n ≤ 8
    → drop (16 - 2 * n) (chunk (length line - 16) 16 line) ≡ drop (length line - 2 * n) line
last_sixteen line long n few =
    let from : ℕ = length line - 16 in
    let start : from + (16 - 2 * n) ≡ length line - 2 * n = omega arith in
    ap (drop (16 - 2 * n)) (take_all 16 (drop from line) (omega (arith, length-drop from line)))
    ∙ drop-drop (16 - 2 * n) from line ∙ ap (λ (n : ℕ). drop n line) start

-- the same of a text with fewer bytes, in front of which zeros stand
pub few_digits : (zeros copied text : List ℕ) (n : ℕ) → length zeros ≡ 16 → copied ≡ text → length text < 16 → 2 * n ≤ length text
    → drop (16 - 2 * n) (put_mid (16 - length text) (16 - (16 - length text)) zeros copied) ≡ drop (length text - 2 * n) text
few_digits zeros copied text n sixteen same few fits =
    let a : ℕ = 16 - length text in
    let all = put_mid a (16 - a) zeros text in
    let front : length (take a zeros) ≡ a = length-take-le a zeros (omega arith) in
    let none : drop 16 all ≡ [] = drop-put_mid a (16 - a) zeros text 16 (omega arith) (omega arith) (omega arith) ∙ drop_all 16 zeros (omega arith) in
    let some : take 16 all ≡ take a zeros ++ text = take-put_mid a (16 - a) zeros text 16 (omega arith) (omega arith) in
    let parts : all ≡ take a zeros ++ text = sym (take-append-drop 16 all) ∙ (λ i. some i ++ none i) ∙ append-nil (take a zeros ++ text) in
    let at : 16 - 2 * n ≡ length (take a zeros) + (length text - 2 * n) = omega (arith, front) in
    rw (same, parts, at) (drop-append-add (take a zeros) text (length text - 2 * n))
