-- How the response pending before an answer go on.
use Rattle.std.proofs.Common.{length, ◌≡◌, ◌≤◌, ◌<◌, ℕ, zero, suc, ◌+◌, ◌-◌, ◌*◌, true, false, [], ◌∷◌, refl, arith, add-one}
use Rattle.std.specs.Prelude.{nat_lt, if◌then◌else◌}
use Rattle.std.proofs.lemmas.Bool.Decides.{nat_tests}
use Rattle.diag_port.specs.declared.pace.Pace.{Pace}
use Rattle.diag_port.specs.Late.{most_pendings, pending_at, pendings}

pub pendings_end : (pace : Pace) (t d sid n i : ℕ) → d ≤ pace.first + i * pace.step → pendings pace t d sid n i ≡ []
unfolding pendings
pendings_end pace t d sid zero i h = refl
pendings_end pace t d sid (suc n) i h = let no : nat_lt (pace.first + i * pace.step) d ≡ false = grind (arith, nat_tests) in rw no refl

pub pendings_out : (pace : Pace) (t d sid n i : ℕ) → n ≡ 0 → pendings pace t d sid n i ≡ []
unfolding pendings
pendings_out pace t d sid n i h = rw h refl

next : (pace : Pace) (t d sid n m i : ℕ) → n ≡ suc m → pace.first + i * pace.step < d
    → pendings pace t d sid n i ≡ pending_at pace t sid i ∷ pendings pace t d sid m (i + 1)
unfolding pendings
next pace t d sid n m i is h =
    let yes : nat_lt (pace.first + i * pace.step) d ≡ true = grind (arith, nat_tests) in
    rw (is, yes, add-one) refl

pub pendings_more : (pace : Pace) (t d sid i : ℕ) → i < most_pendings → pace.first + i * pace.step < d
    → pendings pace t d sid (most_pendings - i) i ≡ pending_at pace t sid i ∷ pendings pace t d sid (most_pendings - (i + 1)) (i + 1)
pendings_more pace t d sid i few h = next pace t d sid (most_pendings - i) (most_pendings - (i + 1)) i (omega arith) h

-- they are few
pub pendings_few : (pace : Pace) (t d sid n i : ℕ) → length (pendings pace t d sid n i) ≤ n
unfolding pendings
pendings_few pace t d sid zero i = omega arith
pendings_few pace t d sid (suc n) i =
    let rest = pendings_few pace t d sid n (suc i) in
    elim (nat_lt (pace.first + i * pace.step) d) as (λ b. length (if b then pending_at pace t sid i ∷ pendings pace t d sid n (suc i) else []) ≤ suc n) [
      | true ↦ omega (arith, rest)
      | false ↦ omega arith
    ]
