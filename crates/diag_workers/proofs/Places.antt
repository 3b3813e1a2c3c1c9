-- The doors of a crew stand in the testers' order.
use Rattle.std.proofs.Common.{◌≡◌, ◌≤◌, ℕ, zero, suc, ◌+◌, List, [], ◌∷◌, length, map, ap, sym, ◌∙◌, arith}
use Rattle.std.proofs.lemmas.List.{length-map}
use Rattle.std.specs.List.{AllByRecursion}
use Rattle.diag_pdu.specs.Cut.{counted_from}
use Rattle.diag_pdu.proofs.CutFrames.{length-counted}

pub places_count : {D : Type 0} (tester : D → ℕ) (doors : List D) (first n : ℕ) → map tester doors ≡ counted_from first n → length doors ≡ n
places_count tester doors first n h = sym (length-map doors tester) ∙ (ap length h ∙ length-counted first n)

pub places_below : {D : Type 0} (tester : D → ℕ) (doors : List D) (first n most : ℕ) → first + n ≤ most + 1 → map tester doors ≡ counted_from first n
    → AllByRecursion (λ (door : D). tester door ≤ most) doors
places_below tester [] first n most room h = tt
places_below tester (door ∷ doors) first zero most room h = absurd (clash h)
  where
    clash : tester door ∷ map tester doors ≡ [] → ⊥
    clash h = cc
places_below tester (door ∷ doors) first (suc n) most room h =
    let here : tester door ≡ first = cc in
    let rest : map tester doors ≡ counted_from (suc first) n = cc in
    let low : tester door ≤ most = omega arith in
    let room' : (suc first) + n ≤ most + 1 = omega arith in
    (low, places_below tester doors (suc first) n most room' rest)
