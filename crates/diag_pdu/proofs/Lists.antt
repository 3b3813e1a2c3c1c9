-- Lemmas on lists that the transport needs.
use Rattle.std.proofs.Common.{◌≡◌, ℕ, zero, suc, ◌+◌, ◌<◌, List, [], ◌∷◌, length, drop, refl, ◌∙◌, ap, arith}
use Rattle.std.specs.Prelude.{Option, Some, slice_get, map}
use Rattle.diag_pdu.specs.Cut.{counted_from}

pub length-zero : {X : Type 0} (xs : List X) → length xs ≡ 0 → xs ≡ []
length-zero [] h = refl
length-zero (x ∷ xs) h = absurd (omega arith)

pub map-at : {X : Type 0} (f : ℕ → X) (a n i : ℕ) → i < n → slice_get (map f (counted_from a n)) i ≡ Some (f (a + i))
map-at f a zero i h = absurd (omega arith)
map-at {X} f a (suc n) zero h = ap (λ (k : ℕ). let o : Option X = Some (f k) in o) (omega arith)
map-at {X} f a (suc n) (suc i) h = map-at f (suc a) n i (omega arith) ∙ ap (λ (k : ℕ). let o : Option X = Some (f k) in o) (omega arith)

-- the rest from an item on
pub drop-next : {X : Type 0} (xs : List X) (i : ℕ) (x : X) → slice_get xs i ≡ Some x → drop i xs ≡ x ∷ drop (i + 1) xs
drop-next [] i x h = cc
drop-next {X} (y ∷ xs) zero x h = let same : y ≡ x = cc in ap (λ (z : X). z ∷ xs) same
drop-next (y ∷ xs) (suc i) x h = let e : suc (i + 1) ≡ suc i + 1 = omega arith in drop-next xs i x h ∙ ap (λ (j : ℕ). x ∷ drop j (y ∷ xs)) e
