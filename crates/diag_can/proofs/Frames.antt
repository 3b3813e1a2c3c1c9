-- Bytes that are written into the eight of a frame.
use Rattle.std.proofs.Common.{◌≡◌, ℕ, zero, suc, ◌+◌, ◌-◌, ◌≤◌, Bool, true, false, nat_lt, cond, List, [], ◌∷◌, ◌++◌, length, take, drop, replicate, length-drop, length-append, append_assoc, inl, inr, refl, sym, ap, ◌∙◌, arith}
use Rattle.std.proofs.lemmas.Bool.{cases_lt}
use Rattle.std.proofs.lemmas.Bool.Decides.{nat_tests}
use Rattle.std.proofs.lemmas.List.{length-replicate, length-take-le, take-take, take_all, take-append-drop}
use Rattle.std.proofs.lemmas.Slice.{take-put_mid}
use Rattle.std.proofs.Math.Seq.{take-append-add}
use borrow.Rule.Slice.PartMut.{put_mid}
use lib.Lanes.{sel_l, top}

-- the first k of some bytes were written, and then those from m on, which begin inside the first
pub ends : (xs ys : List ℕ) (at k m : ℕ) → at + length ys ≤ length xs → k ≤ length ys → length ys ≤ m + k → m ≤ k → m ≤ length ys
    → take (at + length ys) (put_mid (at + m) (at + m + k - (at + m)) (put_mid at (at + k - at) xs (take k ys)) (take (length ys - m) (drop m ys)))
    ≡ take at xs ++ ys
ends xs ys at k m room inside all back few =
    let first = put_mid at (at + k - at) xs (take k ys) in
    let taken = length-take-le k ys inside in
    let before = length-take-le at xs (omega arith) in
    let long = length-append (take at xs) (take k ys ++ drop (at + k - at) (drop at xs)) in
    let longer = length-append (take k ys) (drop (at + k - at) (drop at xs)) in
    let rest = take_all (length ys - m) (drop m ys) (omega (arith, length-drop m ys)) in
    let front : take (at + k) first ≡ take at xs ++ take k ys = take-put_mid at (at + k - at) xs (take k ys) (at + k) (omega (arith, taken)) (omega arith) in
    let start : take (at + m) (take at xs ++ take k ys) ≡ take at xs ++ take m ys =
    (rw before at (take-append-add (take at xs) (take k ys) m)) ∙ ap (λ (t : List ℕ). take at xs ++ t) (take-take m k ys back) in
    ap (λ (t : List ℕ). take (at + length ys) (put_mid (at + m) (at + m + k - (at + m)) first t)) rest
    ∙ take-put_mid (at + m) (at + m + k - (at + m)) first (drop m ys) (at + length ys) (omega (arith, length-drop m ys))
    (omega (arith, taken, before, long, longer))
    ∙ ap (λ (t : List ℕ). t ++ drop m ys) (sym (take-take (at + m) (at + k) first (omega arith)) ∙ ap (take (at + m)) front ∙ start)
    ∙ append_assoc (take at xs) (take m ys) (drop m ys) ∙ ap (λ (t : List ℕ). take at xs ++ t) (take-append-drop m ys)

-- which of the places from i on are before len
abbrev before : ℕ → ℕ → ℕ → List Bool
before i len zero = []
before i len (suc n) = top 7 (cond (nat_lt i len) 255 0) ∷ before (i + 1) len n

-- bytes up to a length, and one byte in all places behind it
filled : (xs : List ℕ) (i len y : ℕ) → sel_l (before i len (length xs)) xs (replicate (length xs) y) ≡ take (len - i) xs ++ replicate (length xs - (len - i)) y
filled [] i len y =
    let none : 0 - (len - i) ≡ 0 = omega arith in
    let empty = take_all {A = ℕ} (len - i) [] (omega arith) in
    rw (none, empty) refl
filled (x ∷ xs) i len y =
    elim (cases_lt i len) [
      | inl lt ↦
          let is : nat_lt i len ≡ true = grind (arith, nat_tests) in
          let one : len - i ≡ suc (len - (i + 1)) = omega arith in
          let left : suc (length xs) - suc (len - (i + 1)) ≡ length xs - (len - (i + 1)) = omega arith in
          rw (is, one, left) (ap (λ (r : List ℕ). x ∷ r) (filled xs (i + 1) len y))
      | inr le ↦
          let is : nat_lt i len ≡ false = grind (arith, nat_tests) in
          let none : len - i ≡ 0 = omega arith in
          let more : len - (i + 1) ≡ 0 = omega arith in
          let all : suc (length xs) - 0 ≡ suc (length xs - 0) = omega arith in
          rw (is, none, all) (ap (λ (r : List ℕ). y ∷ r) (rw more at (filled xs (i + 1) len y)))
    ]

pub eight_filled : (xs : List ℕ) (len y : ℕ) → length xs ≡ 8 → len ≤ 8
    → take 8 (sel_l (before 0 len 8) xs (replicate 8 y)) ≡ take len xs ++ replicate (8 - length (take len xs)) y
eight_filled xs len y full few =
    let whole : len - 0 ≡ len = omega arith in
    let is = rw (full, whole) at (filled xs 0 len y) in
    let taken = length-take-le len xs (omega (arith, full)) in
    let long = length-append (take len xs) (replicate (8 - len) y) in
    rw taken (take_all 8 _ (omega (arith, ap length is, taken, long, length-replicate (8 - len) y)) ∙ is)
