-- Hex digits that are read by a table, and pairs of them.
use Rattle.std.proofs.Common.{◌≡◌, ℕ, ◌+◌, ◌*◌, ◌%◌, ◌<◌, ◌≤◌, eqb, nat_le, true, List, [], ◌∷◌, ◌++◌, length, take, drop, get_or, slice_index, append_assoc, append-nil, length-append, length-drop, unwrap_or, is_some, Option, Some, None, Result, Ok, Err, refl, sym, ap, ◌∙◌, arith}
use Rattle.std.specs.Prelude.{IsOk, IsSome}
use Rattle.std.specs.List.{prefix_len}
use Rattle.std.proofs.lemmas.Bool.{agree_below_at, eqb-true}
use Rattle.std.proofs.lemmas.Bool.Decides.{nat_tests}
use Rattle.std.proofs.Math.Seq.{take-add}
use Rattle.std.proofs.lemmas.List.{length-take-le}
use Rattle.hex.specs.Hex.{is_hex_digit, hex_digit_value, decode_of, decode_pairs, digit_or_error, pair_value, value_at, ◌>>=◌}
use Rattle.hex.specs.declared.error.FromHexError.{FromHexError}
use Rattle.hex.proofs.HexLemmas.{decode_of-even, decode_of-ok}
use Rattle.hex.proofs.Pairs.{cons_byte, drop-pair}
use Rattle.diag_can.specs.Line.{byte_of, pair}
use Rattle.diag_can.specs.declared.table.TheConstants.{VALUES}

-- ---- one digit

-- what a byte weighs: its value as a digit, or too much
abbrev pub weight : ℕ → ℕ
weight c = unwrap_or (hex_digit_value c) 4096

pub values_at : (c : ℕ) → c < 256 → get_or VALUES c 0 ≡ weight c
values_at c byte = eqb-true (get_or VALUES c 0) (weight c) (agree_below_at (λ c. eqb (get_or VALUES c 0) (weight c)) (λ c. true) 256 c refl byte)

pub weight-most : (c : ℕ) → c < 256 → weight c ≤ 4096
weight-most c byte =
    let tested : nat_le (weight c) 4096 ≡ true = agree_below_at (λ c. nat_le (weight c) 4096) (λ c. true) 256 c refl byte in
    grind (arith, nat_tests)

-- a digit is below 16
pub value-lt : (c : ℕ) → c < 256 → (v : ℕ) → hex_digit_value c ≡ Some v → v < 16
value-lt c byte v is =
    let tested : nat_le (unwrap_or (hex_digit_value c) 0) 15 ≡ true =
    agree_below_at (λ c. nat_le (unwrap_or (hex_digit_value c) 0) 15) (λ c. true) 256 c refl byte in
    let low : nat_le v 15 ≡ true = ap (λ (o : Option ℕ). nat_le (unwrap_or o 0) 15) (sym is) ∙ tested in
    grind (arith, nat_tests)

-- ---- a pair

pub pair-length : (text : List ℕ) (b : ℕ) → pair text ≡ Some b → 2 ≤ length text
pair-length [] b is = cc is
pair-length (c ∷ []) b is = cc is
pair-length (c ∷ d ∷ text) b is = omega arith

-- ---- pairs

-- the first pairs of a text write these bytes
pub record IsPairs (text bytes : List ℕ) (count : ℕ) : Type 0 where
  pub counted : length bytes ≡ count
  pub few : 2 * count ≤ length text
  pub written : decode_of (take (2 * count) text) ≡ Ok bytes

pub pairs-none : (text : List ℕ) → IsPairs text [] 0
unfolding decode_pairs
pairs-none text = record { counted = refl; few = omega arith; written = refl }

value-some : (c i : ℕ) (v : ℕ) → hex_digit_value c ≡ Some v → value_at c i ≡ Ok v
value-some c i v is = ap (digit_or_error c i) is

pub pair_value-some : (c d i v w : ℕ) → hex_digit_value c ≡ Some v → hex_digit_value d ≡ Some w → pair_value c d i ≡ Ok (v * 16 + w)
pair_value-some c d i v w h l =
    let a = value-some c i v h in
    let b = value-some d (i + 1) w l in
    rw (a, b) refl

cons-ok : (v : ℕ) (r : Result (List ℕ) FromHexError) (ys : List ℕ) → cons_byte v r ≡ Ok ys → (zs : List ℕ) × (r ≡ Ok zs) × (ys ≡ v ∷ zs)
cons-ok v (Ok zs) ys is = (zs, refl, cc is)
cons-ok v (Err e) ys is = cc is

-- the byte in front of what a longer text decodes to
step-more : (r : Result ℕ FromHexError) (s t : Result (List ℕ) FromHexError) (last : List ℕ) (ys : List ℕ)
    → ((zs : List ℕ) → s ≡ Ok zs → t ≡ Ok (zs ++ last))
    → (r >>= λ byte. cons_byte byte s) ≡ Ok ys → (r >>= λ byte. cons_byte byte t) ≡ Ok (ys ++ last)
step-more (Err e) s t last ys more was = cc was
step-more (Ok byte) s t last ys more was =
    let parts = cons-ok byte s ys was in
    let next = more parts.0 parts.1 in
    ap (cons_byte byte) next ∙ ap (λ (bytes : List ℕ). Ok (bytes ++ last)) (sym parts.2)

-- two digits more behind pairs of digits
decode-more : (i : ℕ) (xs ys : List ℕ) (c d v w : ℕ) → hex_digit_value c ≡ Some v → hex_digit_value d ≡ Some w
    → decode_pairs i xs ≡ Ok ys → decode_pairs i (xs ++ c ∷ d ∷ []) ≡ Ok (ys ++ (v * 16 + w) ∷ [])
unfolding decode_pairs
decode-more i [] ys c d v w h l is =
    let pair = pair_value-some c d i v w h l in
    let none : ys ≡ [] = cc is in
    rw (pair, none) refl
decode-more i (x ∷ []) ys c d v w h l is = cc is
decode-more i (x ∷ y ∷ xs) ys c d v w h l is =
    step-more (pair_value x y i) (decode_pairs (i + 2) xs) (decode_pairs (i + 2) (xs ++ c ∷ d ∷ [])) ((v * 16 + w) ∷ []) ys
    (λ zs was. decode-more (i + 2) xs zs c d v w h l was) is

pair-digits : (c d b : ℕ) → byte_of (hex_digit_value c) (hex_digit_value d) ≡ Some b
    → (v : ℕ) × (w : ℕ) × (hex_digit_value c ≡ Some v) × (hex_digit_value d ≡ Some w) × (b ≡ v * 16 + w)
pair-digits c d b is = go (hex_digit_value c) (hex_digit_value d) refl refl is
  where
    go : (o p : Option ℕ) → hex_digit_value c ≡ o → hex_digit_value d ≡ p → byte_of o p ≡ Some b
        → (v : ℕ) × (w : ℕ) × (hex_digit_value c ≡ Some v) × (hex_digit_value d ≡ Some w) × (b ≡ v * 16 + w)
    go None p h l was = cc was
    go (Some v) None h l was = cc was
    go (Some v) (Some w) h l was = (v, w, h, l, cc was)

-- one pair more
pub pairs-more : (text bytes : List ℕ) (count b : ℕ) → IsPairs text bytes count → pair (drop (2 * count) text) ≡ Some b
    → IsPairs text (bytes ++ b ∷ []) (count + 1)
pairs-more text bytes count b r is =
    let enough : 2 * count + 1 < length text = let two = pair-length (drop (2 * count) text) b is in omega (arith, length-drop (2 * count) text) in
    let c : ℕ = slice_index text (2 * count) in
    let d : ℕ = slice_index text (2 * count + 1) in
    let rest : List ℕ = drop (2 * (count + 1)) text in
    let here : drop (2 * count) text ≡ c ∷ d ∷ rest = drop-pair text count enough in
    let parts = pair-digits c d b (sym (ap pair here) ∙ is) in
    let v : ℕ = parts.0 in
    let w : ℕ = parts.1 in
    let h = parts.2 in
    let l = parts.3 in
    let value = parts.4 in
    let even : (n : ℕ) → n ≤ length text → n % 2 ≡ 0 → decode_of (take n text) ≡ decode_pairs 0 (take n text) =
    λ n le e. decode_of-even (take n text) (ap (λ (k : ℕ). k % 2) (length-take-le n text le) ∙ e) in
    let before : decode_pairs 0 (take (2 * count) text) ≡ Ok bytes = sym (even (2 * count) r.few (omega arith)) ∙ r.written in
    let more = decode-more 0 (take (2 * count) text) bytes c d v w h l before in
    let taken : take (2 * (count + 1)) text ≡ take (2 * count) text ++ c ∷ d ∷ [] =
    (let two : 2 * (count + 1) ≡ 2 * count + 2 = omega arith in
    ap (λ (n : ℕ). take n text) two ∙ take-add (2 * count) 2 text ∙ ap (λ (t : List ℕ). take (2 * count) text ++ take 2 t) here) in
    record {
      counted = length-append bytes (b ∷ []) ∙ ap (λ (n : ℕ). n + 1) r.counted;
      few = omega arith;
      written = even (2 * (count + 1)) (omega arith) (omega arith) ∙ ap (decode_pairs 0) taken ∙ more ∙ ap (λ (n : ℕ). Ok (bytes ++ n ∷ [])) (sym value);
    }

-- ---- pairs that are appended

-- the bytes of so many pairs stand behind what was there
pub record IsAppended (text old new : List ℕ) (count : ℕ) : Type 0 where
  pub past : List ℕ
  pub pairs : IsPairs text past count
  pub is : new ≡ old ++ past

pub appended-none : (text old : List ℕ) → IsAppended text old old 0
appended-none text old = record { past = []; pairs = pairs-none text; is = sym (append-nil old) }

-- one pair more
pub appended-more : (text old new next : List ℕ) (count b : ℕ) → IsAppended text old new count → 2 * count + 1 < length text
    → pair (slice_index text (2 * count) ∷ slice_index text (2 * count + 1) ∷ []) ≡ Some b → next ≡ new ++ b ∷ []
    → IsAppended text old next (count + 1)
appended-more text old new next count b a enough is more =
    let here : pair (drop (2 * count) text) ≡ Some b = ap pair (drop-pair text count enough) ∙ is in
    record {
      past = a.past ++ b ∷ [];
      pairs = pairs-more text a.past count b a.pairs here;
      is = more ∙ ap (λ (xs : List ℕ). xs ++ b ∷ []) a.is ∙ append_assoc old a.past (b ∷ []);
    }

pub is_ok-value : (r : Result (List ℕ) FromHexError) → IsOk r → (bytes : List ℕ) × (r ≡ Ok bytes)
is_ok-value (Ok bytes) ok = (bytes, refl)
is_ok-value (Err e) ok = cc ok

two_digits : (o p : Option ℕ) → is_some o ≡ true → is_some p ≡ true → IsSome (byte_of o p)
two_digits None p o-is p-is = cc o-is
two_digits (Some v) None o-is p-is = cc p-is
two_digits (Some v) (Some w) o-is p-is = refl

-- each of its pairs writes a byte
pub decodes-pair : (text : List ℕ) (count : ℕ) → IsOk (decode_of text) → 2 * count + 1 < length text
    → IsSome (pair (slice_index text (2 * count) ∷ slice_index text (2 * count + 1) ∷ []))
decodes-pair text count ok enough =
    let value = is_ok-value (decode_of text) ok in
    let all = (decode_of-ok text value.0 value.1).1 in
    two_digits (hex_digit_value (slice_index text (2 * count))) (hex_digit_value (slice_index text (2 * count + 1)))
    (all (2 * count) 0 (omega arith)) (all (2 * count + 1) 0 enough)

-- ---- an identifier

is_digit_from_weight : (o : Option ℕ) → unwrap_or o 4096 < 4096 → is_some o ≡ true
is_digit_from_weight None lt = absurd (omega arith)
is_digit_from_weight (Some v) lt = refl

-- three digits and a `#`
pub run_of_three : (text : List ℕ) (a b c : ℕ) → 4 ≤ length text → get_or text 3 0 ≡ 35
    → a ≡ weight (get_or text 0 0) → b ≡ weight (get_or text 1 0) → c ≡ weight (get_or text 2 0)
    → a * 256 + b * 16 + c < 2048 → prefix_len is_hex_digit text ≡ 3
run_of_three [] a b c le at x y z lt = absurd (omega arith)
run_of_three (p ∷ []) a b c le at x y z lt = absurd (omega arith)
run_of_three (p ∷ q ∷ []) a b c le at x y z lt = absurd (omega arith)
run_of_three (p ∷ q ∷ r ∷ []) a b c le at x y z lt = absurd (omega arith)
run_of_three (p ∷ q ∷ r ∷ s ∷ text) a b c le at x y z lt =
    let first = is_digit_from_weight (hex_digit_value p) (omega (arith, x)) in
    let second = is_digit_from_weight (hex_digit_value q) (omega (arith, y)) in
    let third = is_digit_from_weight (hex_digit_value r) (omega (arith, z)) in
    let hash : s ≡ 35 = at in
    rw (first, second, third, hash) refl
