-- Where frames have up to 8 bytes, those of a message are those of classic CAN.
use Rattle.std.proofs.Common.{inl, inr, ◌≡◌, ℕ, zero, suc, ◌-◌, ◌<◌, ◌≤◌, true, false, nat_le, List, [], ◌∷◌, length, take, drop, map, refl, ◌∙◌, ap, arith}
use Rattle.std.specs.Prelude.{Option, Some, None}
use Rattle.std.proofs.lemmas.Bool.{cases_lt}
use Rattle.std.proofs.lemmas.Bool.Decides.{nat_tests}
use Rattle.std.proofs.lemmas.List.{length-take}
use Rattle.diag_pdu.specs.declared.length.DataLength.TheVariants.{Dl8}
use Rattle.diag_pdu.specs.declared.framing.Framing.{Framing}
use Rattle.diag_pdu.specs.Cut.{gone_with, padded, filled, first_bytes, consecutive_bytes, part_of, counted_from, cut}
use Rattle.diag_pdu.specs.Classic.{classic_head, classic_count, classic_filled, classic_part, classic_cut}

abbrev of_eight : Option ℕ → ℕ → Framing
of_eight pad fill = record { tx_dl = Dl8; pad = pad; fill = fill }

same_padding : (pad : Option ℕ) (bytes : List ℕ) → padded pad bytes ≡ classic_filled pad bytes
same_padding None bytes = refl
same_padding (Some byte) bytes = refl

short : (pad : Option ℕ) (fill : ℕ) (bytes : List ℕ) → length bytes ≤ 8 → filled (of_eight pad fill) bytes ≡ classic_filled pad bytes
short pad fill bytes few = let short : nat_le (length bytes) 8 ≡ true = grind (arith, nat_tests) in rw short (same_padding pad bytes)

parts : (P : List ℕ) (pad : Option ℕ) (fill a n : ℕ) → map (λ i. filled (of_eight pad fill) (consecutive_bytes i (part_of Dl8 P i))) (counted_from a n)
    ≡ map (λ i. classic_filled pad (consecutive_bytes i (classic_part P i))) (counted_from a n)
parts P pad fill a zero = refl
parts P pad fill a (suc n) =
    let few = length-take 7 (drop (gone_with Dl8 (length P) (a - 1)) P) in
    (λ j. short pad fill (consecutive_bytes a (part_of Dl8 P a)) (grind (arith, few)) j ∷ parts P pad fill (suc a) n j)

head : (P : List ℕ) → 7 < length P → length (first_bytes (length P) (take (classic_head (length P)) P)) ≤ 8
head P long = let few = length-take (classic_head (length P)) P in grind (arith, few)

same : (P : List ℕ) (pad : Option ℕ) (fill : ℕ) → cut (of_eight pad fill) P ≡ classic_cut P pad
unfolding cut classic_cut
same P pad fill =
    elim (cases_lt 7 (length P)) [
      | inl long ↦
          let more : nat_le (length P) 7 ≡ false = grind (arith, nat_tests) in
          rw more (λ j. short pad fill (first_bytes (length P) (take (classic_head (length P)) P)) (head P long) j
          ∷ parts P pad fill 1 (classic_count (length P)) j)
      | inr few ↦
          let less : nat_le (length P) 7 ≡ true = grind (arith, nat_tests) in
          rw less (ap (λ (f : List ℕ). f ∷ []) (short pad fill (length P ∷ P) (omega (arith, few))))
    ]

pub classic_frames : (f : Framing) (P : List ℕ) → f.tx_dl ≡ Dl8 → cut f P ≡ classic_cut P f.pad
classic_frames f P e = ap (λ d. cut (record { tx_dl = d; pad = f.pad; fill = f.fill }) P) e ∙ same P f.pad f.fill
