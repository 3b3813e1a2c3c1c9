-- The digits of a long frame, of which sixteen are read at a time.
use Rattle.std.proofs.Common.{◌≡◌, ℕ, ◌+◌, ◌-◌, ◌*◌, ◌/◌, ◌%◌, ◌<◌, ◌≤◌, true, List, [], ◌++◌, append_assoc, length, take, drop, get_or, Fits, w8, Ok, refl, sym, ap, subst, ◌∙◌, arith, length-append, length-drop, length-take-le}
use Rattle.std.specs.Prelude.{IsOk}
use Rattle.std.specs.List.{AllPass}
use Rattle.std.proofs.lemmas.List.{get_or-drop, get_or-take}
use Rattle.std.proofs.lemmas.List.Elements.{All-drop, All-take}
use Rattle.hex.specs.Hex.{is_hex_digit, decode_of}
use Rattle.hex.proofs.HexLemmas.{decode_of-ok}
use Rattle.diag_can.specs.FrameText.{EndsInBytes, IsLastEight, last_digits}
use Rattle.diag_can.proofs.Pairs.{is_ok-value}
use Rattle.diag_can.proofs.Sixteen.{both, both-sixteen, decode_of-both}
use Rattle.diag_can.proofs.UsualLines.{is_ok-from}

-- these bytes were read, and these digits are left
pub record IsRead (digits rest bytes : List ℕ) : Type 0 where
  pub whole : decode_of digits ≡ Ok (both digits)
  pub is : bytes ++ both rest ≡ both digits
  pub hex : AllPass is_hex_digit rest
  pub even : length rest % 2 ≡ 0
  pub few : 2 * length bytes + length rest ≤ 128
  pub fits : (k : ℕ) → Fits w8 (get_or rest k 0)

pub none_read : (digits : List ℕ) → IsOk (decode_of digits) → length digits ≤ 128 → ((k : ℕ) → Fits w8 (get_or digits k 0)) → IsRead digits digits []
none_read digits ok few fits =
    let value = is_ok-value (decode_of digits) ok in
    let all = decode_of-ok digits value.0 value.1 in
    record { whole = decode_of-both digits all.0 all.1 (λ k _. fits k); is = refl; hex = all.1; even = all.0; few = omega arith; fits = fits }

-- a text writes one list of bytes
same_bytes : (text bytes : List ℕ) → decode_of text ≡ Ok (both text) → decode_of text ≡ Ok bytes → bytes ≡ both text
same_bytes text bytes here there = cc

module _ {digits rest bytes : List ℕ} (h : IsRead digits rest bytes) where
  -- sixteen digits more
  pub more_read : (sixteen eight : List ℕ) → 16 ≤ length rest → sixteen ≡ take 16 rest → (IsOk (decode_of sixteen) → decode_of sixteen ≡ Ok eight)
      → IsRead digits (drop 16 rest) (bytes ++ eight)
  more_read sixteen eight long first reads =
      let text : List ℕ = take 16 rest in
      let size : length text ≡ 16 = length-take-le 16 rest long in
      let value = decode_of-both text (ap (λ (n : ℕ). n % 2) size) (All-take (λ c. is_hex_digit c ≡ true) 16 rest h.hex)
      (λ k lt. subst (Fits w8) (sym (get_or-take 16 rest k 0 (omega (arith, size, lt)))) (h.fits k)) in
      let is = subst (λ (t : List ℕ). decode_of t ≡ Ok eight) first (reads (is_ok-from sixteen (both text) (rw first value))) in
      record {
        whole = h.whole;
        is = append_assoc bytes eight (both (drop 16 rest))
            ∙ ap (λ (t : List ℕ). bytes ++ t) ((λ i. same_bytes text eight value is i ++ both (drop 16 rest)) ∙ both-sixteen rest) ∙ h.is;
        hex = All-drop (λ c. is_hex_digit c ≡ true) 16 rest h.hex;
        even = (let before = h.even in omega (arith, length-drop 16 rest));
        few = (let before = h.few in omega (arith, length-append bytes eight, length-drop 16 rest, (decode_of-ok text eight is).2, size));
        fits = λ k. subst (Fits w8) (sym (get_or-drop 16 rest k 0)) (h.fits (16 + k));
      }

  -- and those that are left
  pub all_read : (eight : List ℕ) → length rest < 16 → IsLastEight rest eight → decode_of digits ≡ Ok (bytes ++ drop (8 - length rest / 2) eight)
  all_read eight short last =
      let n : ℕ = length rest / 2 in
      let even = h.even in
      let at : length rest - 2 * n ≡ 0 = omega arith in
      let same : last_digits rest n ≡ rest = ap (λ (n : ℕ). drop n rest) at in
      let value = decode_of-both rest h.even h.hex (λ k _. h.fits k) in
      let ends : EndsInBytes rest n = record { few = omega arith; inside = omega arith; hex = rw same (is_ok-from rest (both rest) value) } in
      let read = same_bytes rest (drop (8 - n) eight) value (sym (ap decode_of same) ∙ last n ends (omega arith)) in
      h.whole ∙ ap (λ (t : List ℕ). Ok t) (sym h.is ∙ ap (λ (t : List ℕ). bytes ++ t) (sym read))
