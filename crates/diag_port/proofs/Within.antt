-- Frames from one time to another, and times.
use Rattle.std.proofs.Common.{◌≡◌, ◌≤◌, ◌<◌, ℕ, zero, suc, ◌+◌, ◌-◌, min, Bool, true, false, inl, inr, Option, Some, None, List, [], ◌∷◌, ◌++◌, refl, arith}
use Rattle.std.proofs.lemmas.List.Elements.{All-append}
use Rattle.std.proofs.lemmas.Bool.Decides.{nat_tests}
use Rattle.std.specs.Prelude.{◌⊎◌, nat_lt}
use Rattle.diag_tp.specs.Link.{last_tick}
use Rattle.diag_tp.specs.declared.sent.Sent.{Sent}
use Rattle.diag_port.specs.Port.{AreWithin}

pub none_of : {X : Type 0} (o : Option X) → ((x : X) → o ≡ Some x → ⊥) → o ≡ None
none_of None h = refl
none_of (Some x) h = absurd (h x refl)

-- frames within a span are within a wider one
pub within_wider : (from to from' to' : ℕ) (xs : List Sent) → AreWithin from to xs → from' ≤ from → to ≤ to' → AreWithin from' to' xs
within_wider from to from' to' xs h low high = λ k d less. (let one = h k d less in (omega (arith, one.0, low), omega (arith, one.1, high)))

pub within_none : (from to : ℕ) → AreWithin from to []
within_none from to = λ k d less. absurd (omega (arith, less))

pub within_append : (from to : ℕ) (xs ys : List Sent) → AreWithin from to xs → AreWithin from to ys → AreWithin from to (xs ++ ys)
within_append from to xs ys h k = All-append (λ f. (from ≤ f.at) × (f.at ≤ to)) xs ys h k

pub within_one : (f : Sent) (at : ℕ) → f.at ≡ at → AreWithin at at (f ∷ [])
within_one f at is zero d less = (omega (arith, is), omega (arith, is))
within_one f at is (suc k) d less = absurd (omega (arith, less))

-- the time after one move more
pub time_moved : (start now next count left most part : ℕ) → left ≤ count → most ≤ left → 1 ≤ most → part ≡ most
    → (left ≡ count → now ≡ start) → (left < count → now ≡ min (start + (count - left)) last_tick) → next ≡ min (now + part) last_tick
    → next ≡ min (start + (count - (left - most))) last_tick
time_moved start now next count left most part within fits some is began time moved = elim (le-cases left count within) [
  | inl less ↦ omega (arith, time less)
  | inr same ↦ omega (arith, began same)
]
  where
    le-cases : (a b : ℕ) → a ≤ b → (a < b) ⊎ (a ≡ b)
    le-cases a b h = pick (nat_lt a b) refl
      where
        pick : (t : Bool) → nat_lt a b ≡ t → (a < b) ⊎ (a ≡ b)
        pick true e = inl (grind (arith, nat_tests))
        pick false e = inr (grind (arith, nat_tests))
