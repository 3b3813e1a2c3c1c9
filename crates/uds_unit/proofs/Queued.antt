-- The frames that a call draws, from the testers' lists.
use Rattle.std.proofs.Common.{◌≡◌, ℕ, zero, suc, ◌+◌, Some, List, [], ◌∷◌, ◌++◌, length, map, drop, refl, ap, ap₂, subst, ◌∙◌, arith}
use Rattle.std.proofs.Math.Seq.{drop-append_seam}
use Rattle.std.specs.List.{flat_map}
use Rattle.std.specs.Prelude.{slice_get}
use Rattle.diag_pdu.specs.Cut.{counted_from}
use Rattle.diag_tp.specs.declared.sent.Sent.{Sent}
use Rattle.diag_bus.specs.Text.{drawn_for, gathered}

-- the testers' lists one behind the other are the frames that each is sent more
pub gathered_is : (base next : ℕ → List Sent) (a : ℕ) (lists : List (List Sent))
    → ((i : ℕ) (frames : List Sent) → slice_get lists i ≡ Some frames → next (i + a) ≡ base (i + a) ++ frames)
    → flat_map (λ t. map (drawn_for t) (drop (length (base t)) (next t))) (counted_from a (length lists)) ≡ gathered a lists
gathered_is base next a [] h = refl
gathered_is base next a (frames ∷ lists) h =
    let on : suc a ≡ a + 1 = omega arith in
    let none : 0 + a ≡ a = omega arith in
    let first : next a ≡ base a ++ frames = subst (λ t. next t ≡ base t ++ frames) none (h zero frames refl) in
    let here : map (drawn_for a) (drop (length (base a)) (next a)) ≡ map (drawn_for a) frames =
    ap (λ xs. map (drawn_for a) (drop (length (base a)) xs)) first ∙ ap (map (drawn_for a)) (drop-append_seam (base a) frames) in
    ap₂ ◌++◌ here (gathered_is base next (suc a) lists (λ i fs at.
    let same : suc i + a ≡ i + suc a = omega arith in
    subst (λ t. next t ≡ base t ++ fs) same (h (suc i) fs at)) ∙ ap (λ n. gathered n lists) on)
