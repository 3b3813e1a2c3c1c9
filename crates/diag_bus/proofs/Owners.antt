-- Whose the frames of an identifier are.
use Rattle.std.proofs.Common.{◌≡◌, ◌≢◌, ◌≤◌, ◌<◌, ◌+◌, ◌-◌, ℕ, zero, suc, Bool, true, false, Option, Some, None, List, [], ◌∷◌, ◌++◌, length, map, refl, ap, sym, ◌∙◌, arith}
use Rattle.std.proofs.lemmas.Bool.{eq-eqb, ne_eqb, or_parts}
use Rattle.std.proofs.lemmas.Option.{none-some}
use Rattle.std.specs.List.{flat_map, list_any}
use Rattle.std.specs.Option.{option_to_list}
use Rattle.std.specs.Prelude.{◌==◌, ◌||◌, if◌then◌else◌, slice_get, unwrap_or}
use Rattle.diag_can.specs.Event.{Event, Physical, Functional}
use Rattle.diag_can.specs.declared.frame.Frame.{Frame}
use Rattle.diag_setup.specs.Rows.{has_key, has_repeat}
use Rattle.diag_setup.specs.Setup.{asks_by, can_ids, fault_of, faults, functional_of, has_repeated_id, has_repeated_name, id_by, ids_of, itself, nobody}
use Rattle.diag_setup.specs.declared.raw.RawSetup.{RawSetup}
use Rattle.diag_setup.specs.declared.raw.RawTester.{RawTester}
use Rattle.diag_setup.proofs.SetupLemmas.{NoneHold, none_hold}
use Rattle.diag_pdu.specs.Cut.{counted_from}
use Rattle.diag_bus.specs.Events.{frame_to}
use Rattle.diag_bus.specs.RequestIds.{IsOwner, IsWithin, functional_to, functional_to_all}
use Rattle.diag_bus.specs.declared.request_ids.Owner.{Owner}
use Rattle.diag_bus.specs.declared.request_ids.Owner.TheVariants as owner
use Rattle.diag_bus.proofs.Nodes.{found_at, frames_more, functional_more}

abbrev pub request_id : RawTester → ℕ
request_id t = id_by t.extended t.request

abbrev pub response_id : RawTester → ℕ
response_id t = id_by t.extended t.response

-- ---- no request has the identifier of another, and none a functional one

later : (a b : Bool) → (a || (b || true)) ≡ true
later true b = refl
later false true = refl
later false false = refl

-- a tester's request is among the identifiers of the bus
request_in : (ts : List RawTester) (i : ℕ) (t : RawTester) → slice_get ts i ≡ Some t → has_key itself (can_ids ts) (request_id t) ≡ true
request_in [] i t at = absurd (none-some t at)
request_in (u ∷ ts) zero t at =
    let same : u ≡ t = cc in
    rw (eq-eqb (request_id u) (request_id t) (ap (λ (r : RawTester). request_id r) same)) refl
request_in (u ∷ ts) (suc i) t at = rw (request_in ts i t at) (later (request_id u == request_id t) (response_id u == request_id t))

-- the first one's stands nowhere behind it
first_apart : (t : RawTester) (ts : List RawTester) (k : ℕ) → has_repeat itself (can_ids (t ∷ ts)) ≡ false
    → has_key itself (can_ids ts) k ≡ true → k ≢ request_id t
first_apart t ts k once there same =
    let behind = (or_parts (has_key itself (response_id t ∷ can_ids ts) (request_id t)) (has_repeat itself (response_id t ∷ can_ids ts)) once).0 in
    let none = (or_parts (response_id t == request_id t) (has_key itself (can_ids ts) (request_id t)) behind).1 in
    let both : true ≡ false = sym there ∙ (ap (has_key itself (can_ids ts)) same ∙ none) in
    cc

pub others_once : (t : RawTester) (ts : List RawTester) → has_repeat itself (can_ids (t ∷ ts)) ≡ false → has_repeat itself (can_ids ts) ≡ false
others_once t ts once =
    let behind = (or_parts (has_key itself (response_id t ∷ can_ids ts) (request_id t)) (has_repeat itself (response_id t ∷ can_ids ts)) once).1 in
    (or_parts (has_key itself (can_ids ts) (response_id t)) (has_repeat itself (can_ids ts)) behind).1

requests_apart : (ts : List RawTester) (i j : ℕ) (t u : RawTester) → has_repeat itself (can_ids ts) ≡ false → slice_get ts i ≡ Some t
    → slice_get ts j ≡ Some u → i < j → request_id t ≢ request_id u
requests_apart [] i j t u once at there less same = absurd (none-some t at)
requests_apart (v ∷ ts) i zero t u once at there less same = omega (arith, less)
requests_apart (v ∷ ts) zero (suc j) t u once at there less same =
    let first : v ≡ t = cc in
    first_apart v ts (request_id u) once (request_in ts j u there) (sym same ∙ ap (λ (r : RawTester). request_id r) (sym first))
requests_apart (v ∷ ts) (suc i) (suc j) t u once at there less same =
    requests_apart ts i j t u (others_once v ts once) at there (omega (arith, less)) same

-- a tester's functional identifier is none of these
functional_apart : (ids : List ℕ) (shared : ℕ) (ts : List RawTester) (i : ℕ) (t : RawTester) → list_any (asks_by ids shared) ts ≡ false
    → slice_get ts i ≡ Some t → has_key itself ids (functional_of shared t) ≡ false
functional_apart ids shared [] i t none at = absurd (none-some t at)
functional_apart ids shared (v ∷ ts) zero t none at =
    let first : v ≡ t = cc in
    ap (λ (r : RawTester). has_key itself ids (functional_of shared r)) (sym first) ∙ (or_parts (asks_by ids shared v) (list_any (asks_by ids shared) ts) none).0
functional_apart ids shared (v ∷ ts) (suc i) t none at =
    functional_apart ids shared ts i t (or_parts (asks_by ids shared v) (list_any (asks_by ids shared) ts) none).1 at

pub ids_once : (setup : RawSetup) → fault_of setup ≡ None
    → (has_repeat itself (can_ids setup.testers) ≡ false) × (list_any (asks_by (can_ids setup.testers) setup.functional) setup.testers ≡ false)
ids_once setup well =
    let none : NoneHold (faults setup) = none_hold (faults setup) well in
    first_two (has_repeat itself (can_ids setup.testers)) (list_any (asks_by (can_ids setup.testers) setup.functional) setup.testers) _
    (second (has_repeated_name setup.testers) (has_repeated_id setup.testers setup.functional) _ _ _ _ none.1.1.0)
  where
    first_two : (a b c : Bool) → (a || b || c) ≡ false → (a ≡ false) × (b ≡ false)
    first_two a b c h = or_parts a b (or_parts (a || b) c h).0

    second : (a b c d e f : Bool) → (a || b || c || d || e || f) ≡ false → b ≡ false
    second true b c d e f h = cc
    second false true c d e f h = cc
    second false false c d e f h = refl

-- the tester of a number
tester_at : (setup : RawSetup) (who : ℕ) → IsWithin (length setup.testers) who
    → (t : RawTester) × (slice_get setup.testers (who - 1) ≡ Some t) × ((ids_of setup who).request ≡ request_id t)
    × ((ids_of setup who).functional ≡ functional_of setup.functional t)
tester_at setup who within =
    let found = found_at setup.testers (who - 1) (omega (arith, within.0, within.1)) in (
      found.0,
      found.1,
      ap (λ (o : Option RawTester). request_id (unwrap_or o nobody)) found.1,
      ap (λ (o : Option RawTester). functional_of setup.functional (unwrap_or o nobody)) found.1,
    )

own_apart : (setup : RawSetup) → fault_of setup ≡ None → (who other : ℕ) → IsWithin (length setup.testers) who
    → IsWithin (length setup.testers) other → (ids_of setup who).functional ≢ (ids_of setup other).request
own_apart setup well who other within there same =
    let at = tester_at setup who within in
    let asks = tester_at setup other there in
    let none = functional_apart (can_ids setup.testers) setup.functional setup.testers (who - 1) at.0 (ids_once setup well).1 at.1 in
    let found = request_in setup.testers (other - 1) asks.0 asks.1 in
    let here : functional_of setup.functional at.0 ≡ request_id asks.0 = sym at.3 ∙ (same ∙ asks.2) in
    let both : true ≡ false = sym found ∙ (ap (has_key itself (can_ids setup.testers)) (sym here) ∙ none) in
    cc

each_apart : (setup : RawSetup) → fault_of setup ≡ None → (who later : ℕ) → 1 ≤ who → who < later → later ≤ length setup.testers
    → (ids_of setup who).request ≢ (ids_of setup later).request
each_apart setup well who later some less few same =
    let at = tester_at setup who (some, omega (arith, less, few)) in
    let behind = tester_at setup later (omega (arith, some, less), few) in
    requests_apart setup.testers (who - 1) (later - 1) at.0 behind.0 (ids_once setup well).0 at.1 behind.1 (omega (arith, some, less))
    (sym at.2 ∙ (same ∙ behind.2))

-- ---- one tester more

module _ (setup : RawSetup) (id n : ℕ) where
  abbrev next_request : ℕ
  next_request = (ids_of setup (n + 1)).request

  abbrev next_functional : ℕ
  next_functional = (ids_of setup (n + 1)).functional

  -- its frame of the identifier
  abbrev to_next : List ℕ → List (ℕ × Event)
  to_next bytes = frame_to setup (Some (record { id = id; bytes = bytes })) (n + 1)

  abbrev functional_to_next : List ℕ → List (ℕ × Event)
  functional_to_next bytes = functional_to setup id bytes (n + 1)

  more : (bytes : List ℕ) (L o : List (ℕ × Event)) → flat_map (frame_to setup (Some (record { id = id; bytes = bytes }))) (counted_from 1 n) ≡ L
      → to_next bytes ≡ o → flat_map (frame_to setup (Some (record { id = id; bytes = bytes }))) (counted_from 1 (n + 1)) ≡ L ++ o
  more bytes L o before is =
      let frame : Frame = record { id = id; bytes = bytes } in
      frames_more setup (Some frame) n (n + 1) refl ∙ (ap (λ w. w ++ to_next bytes) before ∙ ap (λ w. L ++ w) is)

  own : (bytes : List ℕ) → id ≡ next_request → to_next bytes ≡ (n + 1, Physical bytes) ∷ []
  own bytes same = rw (eq-eqb id next_request same) refl

  -- it isn't a request of it
  common : (bytes : List ℕ) → id ≢ next_request → to_next bytes ≡ functional_to_next bytes
  common bytes other = rw (ne_eqb id next_request other)
      (elim (id == next_functional) as (λ b. map {A = Event} {B = ℕ × Event} (λ x. (n + 1, x)) (option_to_list (if b then Some (Functional bytes) else None))
      ≡ (if b then (n + 1, Functional bytes) ∷ [] else [])) [
        | true ↦ refl
        | false ↦ refl
      ])

  none : (bytes : List ℕ) → id ≢ next_functional → functional_to_next bytes ≡ []
  none bytes apart = rw (ne_eqb id next_functional apart) refl

  -- a functional frame to one tester more
  all_more : (bytes : List ℕ) → functional_to_all setup id (n + 1) bytes ≡ functional_to_all setup id n bytes ++ functional_to_next bytes
  all_more bytes = functional_more setup id bytes n (n + 1) refl

  -- it has another identifier
  pub owner_stays : fault_of setup ≡ None → n < length setup.testers → id ≢ next_request → id ≢ next_functional → (owner : Owner)
      → IsOwner setup id n owner → IsOwner setup id (n + 1) owner
  owner_stays well within other apart owner.Nobody h = record {
    among = λ bytes. all_more bytes ∙ (λ i. h.among bytes i ++ none bytes apart i);
    gives = λ bytes. more bytes [] [] (h.gives bytes) (common bytes other ∙ none bytes apart);
  }
  owner_stays well within other apart (owner.Tester who) h = record {
    among = ((h.among.0.0, omega (arith, h.among.0.1)), h.among.1);
    gives = λ bytes. more bytes ((who, Physical bytes) ∷ []) [] (h.gives bytes) (common bytes other ∙ none bytes apart);
  }
  owner_stays well within other apart owner.Functional h = record {
    among = (h.among.0, ((h.among.1.0.0, omega (arith, h.among.1.0.1)), h.among.1.1));
    gives = λ bytes. more bytes (functional_to_all setup id n bytes) (functional_to_next bytes) (h.gives bytes) (common bytes other) ∙ sym (all_more bytes);
  }

  -- it is the tester's own
  pub owner_found : fault_of setup ≡ None → n < length setup.testers → id ≡ next_request → (before : Owner)
      → IsOwner setup id n before → IsOwner setup id (n + 1) (owner.Tester (n + 1))
  owner_found well within same owner.Nobody h = record {
    among = ((omega arith, omega arith), same);
    gives = λ bytes. more bytes [] ((n + 1, Physical bytes) ∷ []) (h.gives bytes) (own bytes same);
  }
  owner_found well within same (owner.Tester who) h =
      absurd (each_apart setup well who (n + 1) h.among.0.0 (omega (arith, h.among.0.1)) (omega (arith, within)) (sym h.among.1 ∙ same))
  owner_found well within same owner.Functional h =
      absurd (own_apart setup well h.among.0 (n + 1) (h.among.1.0.0, omega (arith, h.among.1.0.1, within)) (omega arith, omega (arith, within))
      (sym h.among.1.1 ∙ same))

  -- it is the tester's functional one
  pub owner_asks : fault_of setup ≡ None → n < length setup.testers → id ≢ next_request → id ≡ next_functional → (before : Owner)
      → IsOwner setup id n before → IsOwner setup id (n + 1) owner.Functional
  owner_asks well within other same owner.Nobody h = record {
    among = (n + 1, ((omega arith, omega arith), same));
    gives = λ bytes. more bytes [] (functional_to_next bytes) (h.gives bytes) (common bytes other)
        ∙ sym (all_more bytes ∙ ap (λ w. w ++ functional_to_next bytes) (h.among bytes));
  }
  owner_asks well within other same (owner.Tester who) h =
      absurd (own_apart setup well (n + 1) who (omega arith, omega (arith, within)) (h.among.0.0, omega (arith, h.among.0.1, within))
      (sym same ∙ h.among.1))
  owner_asks well within other same owner.Functional h = record {
    among = (n + 1, ((omega arith, omega arith), same));
    gives = λ bytes. more bytes (functional_to_all setup id n bytes) (functional_to_next bytes) (h.gives bytes) (common bytes other) ∙ sym (all_more bytes);
  }
