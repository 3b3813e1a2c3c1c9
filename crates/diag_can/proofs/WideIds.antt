-- Identifiers of eight digits.
use Rattle.std.proofs.Common.{◌≡◌, ℕ, ◌+◌, ◌*◌, ◌^◌, ◌<◌, ◌≤◌, nat_lt, true, false, List, [], ◌∷◌, length, get_or, Option, Some, None, inl, inr, refl, subst, arith}
use Rattle.std.specs.Prelude.{◌↔◌, ◌==◌, IsSome, IfSome, Ok, if◌then◌else◌}
use Rattle.std.proofs.lemmas.Bool.{cases_lt, ne_eqb, or_parts}
use Rattle.std.proofs.lemmas.Bool.Decides.{nat_tests}
use Rattle.diag_can.specs.Identifier.{extended, is_extended}
use Rattle.diag_can.specs.Line.{four_value, has_extended, is_among, wide_frame, wide_id_of}
use Rattle.diag_can.specs.declared.frame.KnownId.{KnownId}

-- what is made of a number
made : (o : Option ℕ) (n m : ℕ) → (IsSome o ↔ (n < m)) → IfSome o (λ id. id ≡ extended n) → o ≡ (if nat_lt n m then Some (extended n) else None)
made None n m found value =
    elim (cases_lt n m) [
      | inl below ↦ cc (found.1 below)
      | inr above ↦ let no : nat_lt n m ≡ false = grind (arith, nat_tests) in rw no refl
    ]
made (Some id) n m found value =
    let below = found.0 refl in
    let yes : nat_lt n m ≡ true = grind (arith, nat_tests) in
    rw (yes, value) refl

-- eight digits, one by one
pub of_eight : (digits : List ℕ) (high low : ℕ) (o : Option ℕ) → 8 ≤ length digits → length digits < 9
    → high ≡ four_value (get_or digits 0 0) (get_or digits 1 0) (get_or digits 2 0) (get_or digits 3 0)
    → low ≡ four_value (get_or digits 4 0) (get_or digits 5 0) (get_or digits 6 0) (get_or digits 7 0)
    → (IsSome o ↔ (high * 65536 + low < 2 ^ 29)) → IfSome o (λ id. id ≡ extended (high * 65536 + low)) → o ≡ wide_id_of digits
of_eight [] high low o least most h l found value = absurd (omega arith)
of_eight (a ∷ []) high low o least most h l found value = absurd (omega arith)
of_eight (a ∷ b ∷ []) high low o least most h l found value = absurd (omega arith)
of_eight (a ∷ b ∷ c ∷ []) high low o least most h l found value = absurd (omega arith)
of_eight (a ∷ b ∷ c ∷ d ∷ []) high low o least most h l found value = absurd (omega arith)
of_eight (a ∷ b ∷ c ∷ d ∷ e ∷ []) high low o least most h l found value = absurd (omega arith)
of_eight (a ∷ b ∷ c ∷ d ∷ e ∷ f ∷ []) high low o least most h l found value = absurd (omega arith)
of_eight (a ∷ b ∷ c ∷ d ∷ e ∷ f ∷ g ∷ []) high low o least most h l found value = absurd (omega arith)
of_eight (a ∷ b ∷ c ∷ d ∷ e ∷ f ∷ g ∷ i ∷ []) high low o least most h l found value =
    rw (← h, ← l) (made o (high * 65536 + low) (2 ^ 29) found value)
of_eight (a ∷ b ∷ c ∷ d ∷ e ∷ f ∷ g ∷ i ∷ j ∷ digits) high low o least most h l found value = absurd (omega arith)

-- it has 29 bits
chosen : (n m id : ℕ) → (if nat_lt n m then Some (extended n) else None) ≡ Some id → (k : ℕ) × (extended k ≡ id)
chosen n m id is =
    elim (cases_lt n m) [
      | inl below ↦ let yes : nat_lt n m ≡ true = grind (arith, nat_tests) in (n, cc (rw yes at is))
      | inr above ↦ let no : nat_lt n m ≡ false = grind (arith, nat_tests) in absurd (cc (rw no at is))
    ]

eight_or_none : (digits : List ℕ) (id : ℕ) → wide_id_of digits ≡ Some id → (k : ℕ) × (extended k ≡ id)
eight_or_none [] id is = absurd (cc is)
eight_or_none (a ∷ []) id is = absurd (cc is)
eight_or_none (a ∷ b ∷ []) id is = absurd (cc is)
eight_or_none (a ∷ b ∷ c ∷ []) id is = absurd (cc is)
eight_or_none (a ∷ b ∷ c ∷ d ∷ []) id is = absurd (cc is)
eight_or_none (a ∷ b ∷ c ∷ d ∷ e ∷ []) id is = absurd (cc is)
eight_or_none (a ∷ b ∷ c ∷ d ∷ e ∷ f ∷ []) id is = absurd (cc is)
eight_or_none (a ∷ b ∷ c ∷ d ∷ e ∷ f ∷ g ∷ []) id is = absurd (cc is)
eight_or_none (a ∷ b ∷ c ∷ d ∷ e ∷ f ∷ g ∷ h ∷ []) id is = chosen (four_value a b c d * 65536 + four_value e f g h) (2 ^ 29) id is
eight_or_none (a ∷ b ∷ c ∷ d ∷ e ∷ f ∷ g ∷ h ∷ i ∷ digits) id is = absurd (cc is)

-- ---- no identifier of 29 bits is known

not_among : (known : List KnownId) (n : ℕ) → has_extended known ≡ false → is_among known (extended n) ≡ false
not_among [] n none = refl
not_among (k ∷ known) n none =
    let parts = or_parts (is_extended k.id) (has_extended known) none in
    let short : (k.id == extended n) ≡ false = (let below : k.id < 2048 = grind (arith, nat_tests, parts.0) in ne_eqb k.id (extended n) (λ same. omega (arith, below, same))) in
    rw (short, not_among known n parts.1) refl

wide_none : (o : Option ℕ) (digits : List ℕ) → wide_id_of digits ≡ o → (known : List KnownId) (rest : List ℕ) → has_extended known ≡ false
    → wide_frame known o rest ≡ Ok None
wide_none None digits is known rest none = refl
wide_none (Some id) digits is known rest none =
    let wide = eight_or_none digits id is in
    let other : is_among known id ≡ false = subst (λ i. is_among known i ≡ false) wide.1 (not_among known wide.0 none) in
    rw other refl

pub passed_over : (known : List KnownId) (digits rest : List ℕ) → has_extended known ≡ false → wide_frame known (wide_id_of digits) rest ≡ Ok None
passed_over known digits rest none = wide_none (wide_id_of digits) digits refl known rest none
