-- Many ticks of a tester's delay at once.
use Rattle.std.proofs.Common.{◌≡◌, ℕ, zero, suc, ◌-◌, ◌<◌, ◌≤◌, true, false, List, [], ◌∷◌, ◌==◌, slice_index, slice_set, refl, ap, sym, ◌∙◌, arith}
use Rattle.std.proofs.lemmas.Bool.{and_parts, eqb-true, ne_eqb}
use Rattle.std.specs.List.{list_all}
use Rattle.diag_store.specs.Security.{after_tick, after_ticks, is_none_left, nobody_is_delayed}
use Rattle.diag_store.specs.declared.security.SecurityState.{SecurityState}

set_same : (xs : List ℕ) (i : ℕ) → slice_set xs i (slice_index xs i) ≡ xs
set_same [] i = refl
set_same (x ∷ xs) zero = refl
set_same (x ∷ xs) (suc i) = ap (λ ys. x ∷ ys) (set_same xs i)

set_twice : (xs : List ℕ) (i a b : ℕ) → slice_set (slice_set xs i a) i b ≡ slice_set xs i b
set_twice [] i a b = refl
set_twice (x ∷ xs) zero a b = refl
set_twice (x ∷ xs) (suc i) a b = ap (λ ys. x ∷ ys) (set_twice xs i a b)

index_set : (xs : List ℕ) (i a : ℕ) → 1 ≤ slice_index xs i → slice_index (slice_set xs i a) i ≡ a
index_set [] i a some = absurd (omega arith)
index_set (x ∷ xs) zero a some = refl
index_set (x ∷ xs) (suc i) a some = index_set xs i a some

-- a delay that is over stays so
pub no_delay : (n : ℕ) (s : SecurityState) (who : ℕ) → slice_index s.delays (who - 1) ≡ 0 → after_ticks s who n ≡ s
no_delay zero s who e = refl
no_delay (suc n) s who e =
    let still : after_tick s who ≡ s = rw (e) refl in
    rw still (no_delay n s who e)

-- one tick of a delay that goes on
goes_on : (s : SecurityState) (who left : ℕ) → slice_index s.delays (who - 1) ≡ left → 2 ≤ left
    → after_tick s who ≡ record s { delays = slice_set s.delays (who - 1) (left - 1) }
goes_on s who left e more =
    let some : (left == 0) ≡ false = ne_eqb left 0 (omega arith) in
    let not_last : (left == 1) ≡ false = ne_eqb left 1 (omega arith) in
    rw (e, some, not_last) refl

-- ticks that don't end a delay make it shorter
pub shorter : (n : ℕ) (s : SecurityState) (who left : ℕ) → slice_index s.delays (who - 1) ≡ left → n < left
    → after_ticks s who n ≡ record s { delays = slice_set s.delays (who - 1) (left - n) }
shorter zero s who left e below =
    let left_all : left - 0 ≡ slice_index s.delays (who - 1) = omega (arith, e) in
    let same = ap (λ x. slice_set s.delays (who - 1) x) left_all ∙ set_same s.delays (who - 1) in
    ap (λ (d : List ℕ). record s { delays = d }) (sym same)
shorter (suc n) s who left e below =
    let next : SecurityState = record s { delays = slice_set s.delays (who - 1) (left - 1) } in
    let some : 1 ≤ slice_index s.delays (who - 1) = omega (arith, e) in
    let rest = shorter n next who (left - 1) (index_set s.delays (who - 1) (left - 1) some) (omega arith) in
    let count : left - 1 - n ≡ left - suc n = omega arith in
    let twice = set_twice s.delays (who - 1) (left - 1) (left - 1 - n) ∙ ap (λ x. slice_set s.delays (who - 1) x) count in
    rw (goes_on s who left e (omega arith)) (rest ∙ ap (λ (d : List ℕ). record s { delays = d }) twice)

-- ticks that end a delay forget the wrong keys
pub over : (n : ℕ) (s : SecurityState) (who left : ℕ) → slice_index s.delays (who - 1) ≡ left → 1 ≤ left → left ≤ n
    → after_ticks s who n ≡ record s { delays = slice_set s.delays (who - 1) 0; wrong_keys = slice_set s.wrong_keys (who - 1) 0 }
over zero s who left e some ends = absurd (omega arith)
over (suc n) s who zero e some ends = absurd (omega arith)
over (suc n) s who (suc zero) e some ends =
    let last : SecurityState = record s { delays = slice_set s.delays (who - 1) 0; wrong_keys = slice_set s.wrong_keys (who - 1) 0 } in
    let is_last : after_tick s who ≡ last = rw (e) refl in
    let some_left : 1 ≤ slice_index s.delays (who - 1) = omega (arith, e) in
    rw is_last (no_delay n last who (index_set s.delays (who - 1) 0 some_left))
over (suc n) s who (suc (suc left)) e some ends =
    let next : SecurityState = record s { delays = slice_set s.delays (who - 1) (suc (suc left) - 1) } in
    let some_left : 1 ≤ slice_index s.delays (who - 1) = omega (arith, e) in
    let rest = over n next who (suc (suc left) - 1) (index_set s.delays (who - 1) (suc (suc left) - 1) some_left) (omega arith) (omega arith) in
    rw (goes_on s who (suc (suc left)) e (omega arith))
    (rest ∙ ap (λ (d : List ℕ). record s { delays = d; wrong_keys = slice_set s.wrong_keys (who - 1) 0 })
    (set_twice s.delays (who - 1) (suc (suc left) - 1) 0))

-- where nobody is delayed, each delay is over
over_at : (delays : List ℕ) (i : ℕ) → list_all is_none_left delays ≡ true → slice_index delays i ≡ 0
over_at [] i none = refl
over_at (left ∷ delays) zero none = eqb-true left 0 (and_parts (is_none_left left) (list_all is_none_left delays) none).0
over_at (left ∷ delays) (suc i) none = over_at delays i (and_parts (is_none_left left) (list_all is_none_left delays) none).1

-- and ticks change nothing
pub nobody_waits : (n : ℕ) (s : SecurityState) (who : ℕ) → nobody_is_delayed s ≡ true → after_ticks s who n ≡ s
nobody_waits n s who none = no_delay n s who (over_at s.delays (who - 1) none)
