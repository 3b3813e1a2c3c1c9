-- Eight bytes as one number, moved to the front together.
use Rattle.std.proofs.Common.{◌≡◌, ℕ, zero, suc, ◌+◌, ◌-◌, ◌*◌, ◌/◌, ◌%◌, ◌^◌, ◌<◌, ◌≤◌, List, [], ◌∷◌, length, take, drop, get_or, refl, sym, subst, ap, ◌∙◌, arith, pow-add}
use Rattle.std.specs.Int.{w64, byte_at, bytes_low_first, from_le_bytes, to_le_bytes}
use Rattle.std.proofs.lemmas.List.{drop-take, take-take}
use Rattle.std.proofs.lemmas.Nat.{from_le_bytes-to_le_bytes_8, le_bytes_8}
use native.Mathlib.Nat.{div-div-eq-div-mul, div-one, pow-zero, pow-suc}

-- a byte of a number is what its place says
byte_is : (i n : ℕ) → byte_at i n ≡ n / 256 ^ i % 256
byte_is zero n = ap (λ (m : ℕ). m % 256) (sym (ap (λ (d : ℕ). n / d) (pow-zero 256) ∙ div-one n))
byte_is (suc i) n = refl

-- a byte of the number behind so many bytes is one of the whole number
byte_behind : (k i n : ℕ) → byte_at i (n / 256 ^ k) ≡ byte_at (i + k) n
byte_behind k i n =
    let swapped : k + i ≡ i + k = omega arith in
    byte_is i (n / 256 ^ k)
    ∙ ap (λ (m : ℕ). m % 256) (div-div-eq-div-mul n (256 ^ k) (256 ^ i) ∙ ap (λ (d : ℕ). n / d) (sym (pow-add 256 k i) ∙ ap (λ (e : ℕ). 256 ^ e) swapped))
    ∙ sym (byte_is (i + k) n)

bytes_behind : (k i m n : ℕ) → bytes_low_first i m (n / 256 ^ k) ≡ bytes_low_first (i + k) m n
bytes_behind k i zero n = refl
bytes_behind k i (suc m) n =
    let next : suc i + k ≡ suc (i + k) = omega arith in
    ap (λ (b : ℕ). b ∷ bytes_low_first (suc i) m (n / 256 ^ k)) (byte_behind k i n)
    ∙ ap (λ (bs : List ℕ). byte_at (i + k) n ∷ bs) (bytes_behind k (suc i) m n ∙ ap (λ (j : ℕ). bytes_low_first j m n) next)

front : (i k m n : ℕ) → m ≤ k → take m (bytes_low_first i k n) ≡ bytes_low_first i m n
front i k zero n le = refl
front i zero (suc m) n le = absurd (omega arith)
front i (suc k) (suc m) n le = ap (λ (bs : List ℕ). byte_at i n ∷ bs) (front (suc i) k m n (omega arith))

behind : (i k m n : ℕ) → drop k (bytes_low_first i (k + m) n) ≡ bytes_low_first (i + k) m n
behind i zero m n =
    let none : i + 0 ≡ i = omega arith in
    let all : 0 + m ≡ m = omega arith in
    rw (none, all) refl
behind i (suc k) m n =
    let next : suc i + k ≡ i + suc k = omega arith in
    let more : suc k + m ≡ suc (k + m) = omega arith in
    rw more (behind (suc i) k m n ∙ ap (λ (j : ℕ). bytes_low_first j m n) next)

power : (k : ℕ) → 2 ^ (8 * k) ≡ 256 ^ k
power zero = refl
power (suc k) =
    let more : 8 * suc k ≡ 8 * k + 8 = omega arith in
    ap (λ (e : ℕ). 2 ^ e) more ∙ pow-add 2 (8 * k) 8 ∙ ap (λ (p : ℕ). p * 256) (power k) ∙ sym (pow-suc 256 k)

-- the bytes of a word are bytes
low_small : (i k n j : ℕ) → get_or (bytes_low_first i k n) j 0 < 256
low_small i zero n j = omega arith
low_small i (suc k) n zero = subst (λ (m : ℕ). m < 256) (sym (byte_is i n)) (omega arith)
low_small i (suc k) n (suc j) = low_small (suc i) k n j

-- the bytes from a place on, of the number that is moved by as many bytes
moved-by : (bytes out : List ℕ) (from count n : ℕ) → length bytes ≡ 8 → ((i : ℕ) → get_or bytes i 0 < 256) → n ≡ from_le_bytes w64 bytes
    → from + count ≡ 8 → out ≡ to_le_bytes w64 (n / 2 ^ (8 * from)) → take count out ≡ drop from bytes
moved-by bytes out from count n full small is all at =
    let whole : bytes_low_first 0 8 n ≡ bytes = le_bytes_8 bytes n full small is in
    ap (take count) (at ∙ ap (λ (d : ℕ). bytes_low_first 0 8 (n / d)) (power from)) ∙ front 0 8 count (n / 256 ^ from) (omega arith)
    ∙ bytes_behind from 0 count n
    ∙ sym (ap (λ (m : ℕ). drop from (bytes_low_first 0 m n)) (sym all) ∙ behind 0 from count n) ∙ ap (drop from) whole

pub moved : (bytes out : List ℕ) (count n : ℕ) → length bytes ≡ 8 → ((i : ℕ) → get_or bytes i 0 < 256) → n ≡ from_le_bytes w64 bytes → count ≤ 8
    → out ≡ to_le_bytes w64 (n / 2 ^ (8 * (8 - count))) → take count out ≡ drop (8 - count) bytes
moved bytes out count n full small is few at = moved-by bytes out (8 - count) count n full small is (omega arith) at

-- fewer of them, which stand within the first so many
pub moved_part : (bytes out : List ℕ) (len from count n : ℕ) → length bytes ≡ 8 → ((i : ℕ) → get_or bytes i 0 < 256) → n ≡ from_le_bytes w64 bytes
    → from + count ≤ len → len ≤ 8
    → out ≡ to_le_bytes w64 (n / 2 ^ (8 * from)) → take count out ≡ take count (drop from (take len bytes))
moved_part bytes out len from count n full small is inside few at =
    let rest : ℕ = len - from in
    let all : from + rest ≡ len = omega arith in
    let moved_all : take (8 - from) out ≡ drop from bytes = moved-by bytes out from (8 - from) n full small is (omega arith) at in
    let within : drop from (take len bytes) ≡ take rest (drop from bytes) = ap (λ (l : ℕ). drop from (take l bytes)) (sym all) ∙ drop-take from rest bytes in
    sym (take-take count (8 - from) out (omega arith)) ∙ ap (take count) moved_all
    ∙ sym (ap (take count) within ∙ take-take count rest (drop from bytes) (omega arith))

-- what is taken of small bytes is small
small-take : (bytes : List ℕ) (k i : ℕ) → ((i : ℕ) → get_or bytes i 0 < 256) → get_or (take k bytes) i 0 < 256
small-take [] zero i small = small i
small-take [] (suc k) i small = small i
small-take (b ∷ bytes) zero i small = omega arith
small-take (b ∷ bytes) (suc k) zero small = small 0
small-take (b ∷ bytes) (suc k) (suc i) small = small-take bytes k i (λ j. small (suc j))

-- one byte in front of the first of eight bytes, fewer than all
pub behind_one : (bytes out : List ℕ) (len first n : ℕ) → length bytes ≡ 8 → ((i : ℕ) → get_or bytes i 0 < 256) → n ≡ from_le_bytes w64 bytes
    → len < 8 → first < 256 → out ≡ to_le_bytes w64 (n % 2 ^ 56 * 256 + first) → take (len + 1) out ≡ first ∷ take len bytes
behind_one (a ∷ b ∷ c ∷ d ∷ e ∷ f ∷ g ∷ h ∷ []) out len first n full small is few byte at =
    let bytes = a ∷ b ∷ c ∷ d ∷ e ∷ f ∷ g ∷ h ∷ [] in
    let one : len + 1 ≡ suc len = omega arith in
    let whole : n % 2 ^ 56 * 256 + first ≡ from_le_bytes w64 (first ∷ take 7 bytes) =
    omega (arith, is, small 0, small 1, small 2, small 3, small 4, small 5, small 6, small 7) in
    ap (take (len + 1)) (at ∙ le_bytes_8 (first ∷ take 7 bytes) (n % 2 ^ 56 * 256 + first) refl (in-front bytes small) whole)
    ∙ rw one (ap (λ (l : List ℕ). first ∷ l) (take-take len 7 bytes (omega arith)))
  where
    in-front : (bytes : List ℕ) → ((i : ℕ) → get_or bytes i 0 < 256) → (i : ℕ) → get_or (first ∷ take 7 bytes) i 0 < 256
    in-front bytes small zero = byte
    in-front bytes small (suc i) = small-take bytes 7 i small
behind_one bytes out len first n full small is few byte at = absurd (omega arith)

-- the last of a word's bytes, so many
pub moved_word : (out : List ℕ) (count n : ℕ) → n < 2 ^ 64 → count ≤ 8 → out ≡ to_le_bytes w64 (n / 2 ^ (8 * (8 - count)))
    → take count out ≡ drop (8 - count) (to_le_bytes w64 n)
moved_word out count n fits few at =
    moved (to_le_bytes w64 n) out count n refl (low_small 0 8 n) (sym (from_le_bytes-to_le_bytes_8 n fits)) few at
