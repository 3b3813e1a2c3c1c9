use Rattle.std.proofs.Common.{◌≡◌, ◌<◌, ◌≤◌, ◌+◌, ◌-◌, ◌∙◌, ℕ, List, true, ap, arith, drop, get_or, inl, inr, length, length-drop, refl, rules, sym, take}
use Rattle.std.proofs.lemmas.Bool.{cases_lt}
use Rattle.std.proofs.lemmas.List.{get_or-drop, take_all}
use Rattle.std.proofs.lemmas.List.Sums.{prefix_len_passes}
use Rattle.std.specs.List.{prefix_len}
use Rattle.hex.specs.Hex.{is_hex_digit}
use Rattle.diag_can.proofs.front.fd_digits.Goals as goal

module _ (text part : List ℕ) (at count : ℕ) (inside : at ≤ length text) (cut : part ≡ take (length text - at) (drop at text)) (run : count ≡ prefix_len is_hex_digit part)
    (fits : count ≤ length part) where
  whole : part ≡ drop at text
  whole = cut ∙ take_all (length text - at) (drop at text) (omega (arith, length-drop at text))

  room : at + count ≤ length text
  room = omega (arith, ap length whole, length-drop at text, fits, inside)

  digit : (k : ℕ) → at ≤ k → k < at + count → is_hex_digit (get_or text k 0) ≡ true
  digit k from to =
      let back : at + (k - at) ≡ k = omega arith in
      rw back at (ap is_hex_digit (sym (ap (λ (t : List ℕ). get_or t (k - at) 0) whole ∙ get_or-drop at text (k - at) 0))
      ∙ prefix_len_passes is_hex_digit part (k - at) 0 (omega (arith, run)))

pub returns : goal.returns
returns c =
    let text = c.args.text.now in
    let place = c.args.place in
    let count = c.hex_run-count.result in
    let part = take (length text - (place + 6)) (drop (place + 6) text) in
    let run = c.hex_run-count.ensures in
    let flags : is_hex_digit (get_or text (place + 5) 0) ≡ true = search rules in
    record {
      inside = room text part (place + 6) count c.requires refl run.count run.fits;
      few = omega (arith, c.if-count-gt128.false);
      second = c.if-text-place-ne35.false;
      digits = λ k from to. elim (cases_lt k (place + 6)) [
        | inl first ↦ let here : k ≡ place + 5 = omega arith in rw here flags
        | inr later ↦ digit text part (place + 6) count c.requires refl run.count run.fits k later to
      ];
    }
