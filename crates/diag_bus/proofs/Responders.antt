-- To which tester a frame of the unit's own is.
use Rattle.std.proofs.Common.{◌≡◌, ◌≢◌, ◌≤◌, ◌<◌, ◌+◌, ◌-◌, ℕ, zero, suc, Bool, true, false, Option, Some, None, List, [], ◌∷◌, length, inl, inr, refl, ap, sym, subst, ◌∙◌, arith}
use Rattle.std.proofs.lemmas.Bool.{cases_eq, eq-eqb, or_parts}
use Rattle.std.proofs.lemmas.Option.{none-some}
use Rattle.std.specs.Prelude.{◌==◌, ◌||◌, IfSome, slice_get, unwrap_or}
use Rattle.diag_setup.specs.Rows.{has_key, has_repeat}
use Rattle.diag_setup.specs.Setup.{can_ids, fault_of, ids_of, itself, nobody}
use Rattle.diag_setup.specs.declared.raw.RawSetup.{RawSetup}
use Rattle.diag_setup.specs.declared.raw.RawTester.{RawTester}
use Rattle.diag_bus.specs.RequestIds.{IsWithin}
use Rattle.diag_bus.specs.ResponseIds.{IsResponder}
use Rattle.diag_bus.proofs.Nodes.{found_at}
use Rattle.diag_bus.proofs.Owners.{ids_once, others_once, request_id, response_id}

-- ---- no response has the identifier of another

second : (a b : Bool) → (a || (true || b)) ≡ true
second true b = refl
second false b = refl

later : (a b : Bool) → (a || (b || true)) ≡ true
later true b = refl
later false true = refl
later false false = refl

-- a tester's response is among the identifiers of the bus
response_in : (ts : List RawTester) (i : ℕ) (t : RawTester) → slice_get ts i ≡ Some t → has_key itself (can_ids ts) (response_id t) ≡ true
response_in [] i t at = absurd (none-some t at)
response_in (u ∷ ts) zero t at =
    let same : u ≡ t = cc in
    rw (eq-eqb (response_id u) (response_id t) (ap (λ (r : RawTester). response_id r) same))
    (second (request_id u == response_id t) (has_key itself (can_ids ts) (response_id t)))
response_in (u ∷ ts) (suc i) t at = rw (response_in ts i t at) (later (request_id u == response_id t) (response_id u == response_id t))

-- the first one's stands nowhere behind it
first_alone : (t : RawTester) (ts : List RawTester) → has_repeat itself (can_ids (t ∷ ts)) ≡ false
    → has_key itself (can_ids ts) (response_id t) ≡ false
first_alone t ts once =
    let behind = (or_parts (has_key itself (response_id t ∷ can_ids ts) (request_id t)) (has_repeat itself (response_id t ∷ can_ids ts)) once).1 in
    (or_parts (has_key itself (can_ids ts) (response_id t)) (has_repeat itself (can_ids ts)) behind).0

responses_apart : (ts : List RawTester) (i j : ℕ) (t u : RawTester) → has_repeat itself (can_ids ts) ≡ false → slice_get ts i ≡ Some t
    → slice_get ts j ≡ Some u → i < j → response_id t ≢ response_id u
responses_apart [] i j t u once at there less same = absurd (none-some t at)
responses_apart (v ∷ ts) i zero t u once at there less same = omega (arith, less)
responses_apart (v ∷ ts) zero (suc j) t u once at there less same =
    let first : v ≡ t = cc in
    let is : response_id v ≡ response_id u = ap (λ (r : RawTester). response_id r) first ∙ same in
    let both : true ≡ false = sym (response_in ts j u there) ∙ (ap (has_key itself (can_ids ts)) (sym is) ∙ first_alone v ts once) in
    cc
responses_apart (v ∷ ts) (suc i) (suc j) t u once at there less same =
    responses_apart ts i j t u (others_once v ts once) at there (omega (arith, less)) same

-- the tester of a number
tester_at : (setup : RawSetup) (who : ℕ) → IsWithin (length setup.testers) who
    → (t : RawTester) × (slice_get setup.testers (who - 1) ≡ Some t) × ((ids_of setup who).response ≡ response_id t)
tester_at setup who within =
    let found = found_at setup.testers (who - 1) (omega (arith, within.0, within.1)) in
    (found.0, found.1, ap (λ (o : Option RawTester). response_id (unwrap_or o nobody)) found.1)

each_apart : (setup : RawSetup) → fault_of setup ≡ None → (who later : ℕ) → 1 ≤ who → who < later → later ≤ length setup.testers
    → (ids_of setup who).response ≢ (ids_of setup later).response
each_apart setup well who later some less few same =
    let at = tester_at setup who (some, omega (arith, less, few)) in
    let behind = tester_at setup later (omega (arith, some, less), few) in
    responses_apart setup.testers (who - 1) (later - 1) at.0 behind.0 (ids_once setup well).0 at.1 behind.1 (omega (arith, some, less))
    (sym at.2 ∙ (same ∙ behind.2))

-- ---- one tester more

pub responder_none : (setup : RawSetup) (id : ℕ) → IsResponder setup id 0 None
responder_none setup id = record { has = tt; alone = λ who within is. absurd (omega (arith, within.0, within.1)) }

has_more : (setup : RawSetup) (id n : ℕ) (responder : Option ℕ) → IfSome responder (λ who. IsWithin n who × ((ids_of setup who).response ≡ id))
    → IfSome responder (λ who. IsWithin (n + 1) who × ((ids_of setup who).response ≡ id))
has_more setup id n None h = tt
has_more setup id n (Some who) h = ((h.0.0, omega (arith, h.0.1)), h.1)

module _ (setup : RawSetup) (id n : ℕ) (responder : Option ℕ) (h : IsResponder setup id n responder) where
  -- it has another identifier
  pub responder_stays : (ids_of setup (n + 1)).response ≢ id → IsResponder setup id (n + 1) responder
  responder_stays other = record {
    has = has_more setup id n responder h.has;
    alone = λ who within is. elim (cases_eq who (n + 1)) [
      | inl same ↦ absurd (other (subst (λ w. (ids_of setup w).response ≡ id) same is))
      | inr apart ↦ h.alone who (within.0, omega (arith, within.1, apart)) is
    ];
  }

  -- it has this one
  pub responder_found : fault_of setup ≡ None → n < length setup.testers → (ids_of setup (n + 1)).response ≡ id
      → IsResponder setup id (n + 1) (Some (n + 1))
  responder_found well within same = record {
    has = ((omega arith, omega arith), same);
    alone = λ who at is. elim (cases_eq who (n + 1)) [
      | inl this ↦ ap Some (sym this)
      | inr apart ↦ absurd (each_apart setup well who (n + 1) at.0 (omega (arith, at.1, apart)) (omega (arith, within)) (is ∙ sym same))
    ];
  }
