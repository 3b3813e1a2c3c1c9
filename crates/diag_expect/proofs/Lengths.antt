-- A state of a run has values as long as the setup's.
use Rattle.std.proofs.Common.{◌≡◌, ℕ, zero, suc, ◌-◌, ◌==◌, Bool, true, false, cond, List, [], ◌∷◌, length, map, drop, slice_get, Option, Some, None, refl, ap, sym, ◌∙◌}
use Rattle.std.specs.Prelude.{find, nat_le, option_map, if◌then◌else◌}
use Rattle.std.proofs.lemmas.Bool.{eqb-true, not-false}
use Rattle.diag_setup.specs.Setup.{first_holding}
use Rattle.diag_setup.proofs.SetupLemmas.{none_hold}
use Rattle.diag_setup.specs.declared.raw.RawDid.{RawDid}
use Rattle.diag_setup.specs.declared.raw.RawSetup.{RawSetup}
use Rattle.diag_store.specs.Answers as answers
use Rattle.diag_store.specs.Dids as dids
use Rattle.diag_store.specs.Opening.{did_row}
use Rattle.diag_store.specs.Routines as routines
use Rattle.diag_store.specs.Security as security
use Rattle.diag_store.specs.declared.dids.DidRow.{DidRow}
use Rattle.diag_ecu.specs.Bytes.{number_16}
use Rattle.diag_ecu.specs.Elapse.{delay_ticked, elapse, routines_ticked, s3_ticked, ticked}
use Rattle.diag_ecu.specs.Respond as ecu
use Rattle.diag_ecu.specs.Service.{is_of_wrong_key, service_of}
use Rattle.diag_ecu.specs.State.{State, entered, is_holder, opening, relocked, s3_filled, session_ended}
use Rattle.diag_ecu.specs.declared.effect.Effect.TheVariants.{Nothing, CountWrongKey}
use Rattle.diag_ecu.specs.declared.service.Nrc.{Nrc}
use Rattle.diag_ecu.specs.declared.service.Service.{Service}
use Rattle.diag_ecu.specs.declared.service.Service.TheVariants.{DiagnosticSessionControl, EcuReset, RoutineControl, SecurityAccess, WriteDataByIdentifier}
use Rattle.diag_ecu.proofs.RuleLemmas.{by_decision}
use Rattle.diag_expect.specs.Expecting.{has_id}
use Rattle.diag_expect.specs.Varying.{HasLengths, value_length}

-- the length of an identifier's value
abbrev length_at : List DidRow → ℕ → Option ℕ
length_at rows id = option_map (λ (v : List ℕ). length v) (dids.value_of rows id)

-- a move leaves the lengths of all values
abbrev pub SameLengths : State → State → Type 0
SameLengths s new = (id : ℕ) → length_at new.dids id ≡ length_at s.dids id

lengths_then : (s mid new : State) → SameLengths s mid → SameLengths mid new → SameLengths s new
lengths_then s mid new first second id = second id ∙ first id

either : (s a b : State) (t : Bool) → SameLengths s a → SameLengths s b → SameLengths s (cond t a b)
either s a b true x y = x
either s a b false x y = y

-- ---- at the opening

abbrev found : List RawDid → ℕ → Option RawDid
found all id = find (has_id id) all

opened : (all : List RawDid) (id : ℕ) → length_at (map did_row all) id ≡ option_map value_length (found all id)
opened [] id = refl
opened (did ∷ all) id =
    elim (did.id == id) as (λ b. option_map (λ (v : List ℕ). length v)
    (option_map (λ (row : DidRow). row.value.items) (cond b (Some (did_row did)) (dids.row_of (map did_row all) id)))
    ≡ option_map value_length (cond b (Some did) (found all id))) [ true ↦ refl | false ↦ opened all id ]

pub opening_lengths : (setup : RawSetup) → HasLengths setup (opening setup)
opening_lengths setup id = opened setup.dids id

-- ---- a value is written

abbrev has_length : List DidRow → ℕ → ℕ → Bool
has_length rows id n = security.option_is (length_at rows id) n

written : (rows : List DidRow) (id at : ℕ) (value : List ℕ) → has_length rows id (length value) ≡ true
    → length_at (dids.with_value rows id value) at ≡ length_at rows at
written [] id at value same = refl
written (row ∷ rows) id at value same =
    elim (row.id == id) as (λ b. security.option_is
    (option_map (λ (v : List ℕ). length v) (option_map (λ (r : DidRow). r.value.items) (cond b (Some row) (dids.row_of rows id)))) (length value) ≡ true
    → length_at (cond b (record row { value = record { items = value } } ∷ rows) (row ∷ dids.with_value rows id value)) at ≡ length_at (row ∷ rows) at) [
      | true ↦ λ h.
          let long : length row.value.items ≡ length value = eqb-true (length row.value.items) (length value) h in
          elim (row.id == at) as (λ b. option_map (λ (v : List ℕ). length v) (option_map (λ (r : DidRow). r.value.items)
          (cond b (Some (record row { value = record { items = value } })) (dids.row_of rows at)))
          ≡ option_map (λ (v : List ℕ). length v) (option_map (λ (r : DidRow). r.value.items) (cond b (Some row) (dids.row_of rows at)))) [
            | true ↦ ap (λ (n : ℕ). Some n) (sym long)
            | false ↦ refl
          ]
      | false ↦ λ h.
          elim (row.id == at) as (λ b. option_map (λ (v : List ℕ). length v) (option_map (λ (r : DidRow). r.value.items)
          (cond b (Some row) (dids.row_of (dids.with_value rows id value) at)))
          ≡ option_map (λ (v : List ℕ). length v) (option_map (λ (r : DidRow). r.value.items) (cond b (Some row) (dids.row_of rows at)))) [
            | true ↦ refl
            | false ↦ written rows id at value h
          ]
    ] same

-- ---- time

tick_lengths : (s : State) (who : ℕ) → SameLengths s (ticked s who)
tick_lengths s who =
    let late = routines_ticked (delay_ticked s who) in
    either s (s3_ticked late) (delay_ticked s who) (is_holder s who)
    (either s (session_ended late) (record late { s3_left = late.s3_left - 1 }) (nat_le late.s3_left 1) (λ id. refl) (λ id. refl)) (λ id. refl)

pub elapse_lengths : (s : State) (who n : ℕ) → SameLengths s (elapse s who n)
elapse_lengths s who zero = λ id. refl
elapse_lengths s who (suc n) =
    lengths_then s (ticked s who) (elapse (ticked s who) who n) (tick_lengths s who) (elapse_lengths (ticked s who) who n)

-- ---- a request

-- what is told of a service that passes all checks is its effect
own_done : (s : State) (who : ℕ) (service : Service) (p : List ℕ) → ecu.done s who p (ecu.own_effect service) ≡ ecu.effect s who service p
own_done s who EcuReset p = refl
own_done s who service p = refl

refused_lengths : (s : State) (who : ℕ) (p : List ℕ) (nrc : Nrc) → SameLengths s (ecu.done s who p (ecu.refused_effect nrc))
refused_lengths s who p nrc =
    elim (is_of_wrong_key nrc) as (λ b. SameLengths s (ecu.done s who p (cond b CountWrongKey Nothing))) [ true ↦ λ id. refl | false ↦ λ id. refl ]

entered_lengths : (s : State) (who n : ℕ) → SameLengths s (entered s who n)
entered_lengths s who n =
    let ends : State = if is_holder s who then session_ended s else s in
    let other : State = s3_filled (record (relocked s) { holder = Some who; session = n }) in
    either s s (if n == 1 then ends else other) (n == 0) (λ id. refl)
    (either s ends other (n == 1) (either s (session_ended s) s (is_holder s who) (λ id. refl) (λ id. refl)) (λ id. refl))

effect_lengths : (s : State) (who : ℕ) (service : Service) (p : List ℕ) → first_holding (ecu.checks s who service p) ≡ None
    → SameLengths s (ecu.effect s who service p)
effect_lengths s who DiagnosticSessionControl p passes = entered_lengths s who (ecu.sub p)
effect_lengths s who SecurityAccess p passes =
    either s (record s { security = security.after_seed s.security who (ecu.sub p) })
    (record s { security = security.after_key s.security who (ecu.key_level p) (drop 2 p) }) (ecu.is_seed_request s p) (λ id. refl) (λ id. refl)
effect_lengths s who WriteDataByIdentifier p passes =
    let h = none_hold (ecu.checks s who WriteDataByIdentifier p) passes in
    let same = not-false (has_length s.dids (number_16 p 1) (length (drop 3 p))) h.1.1.1.1.1.1.1.0 in
    λ id. written s.dids (number_16 p 1) id (drop 3 p) same
effect_lengths s who RoutineControl p passes =
    either s (record s { routines = routines.started s.routines (number_16 p 2) })
    (if ecu.sub p == 0x02 then record s { routines = routines.stopped s.routines (number_16 p 2) } else s) (ecu.sub p == 0x01) (λ id. refl)
    (either s (record s { routines = routines.stopped s.routines (number_16 p 2) }) s (ecu.sub p == 0x02) (λ id. refl) (λ id. refl))
effect_lengths s who service p passes = λ id. refl

service_lengths : (s : State) (who : ℕ) (service : Service) (p : List ℕ)
    → SameLengths s (ecu.done s who p (ecu.served s who (Some service) p).effect)
service_lengths s who service p =
    elim (first_holding (ecu.checks s who service p)) as (λ first. first_holding (ecu.checks s who service p) ≡ first
    → SameLengths s (ecu.done s who p (ecu.outcome_of s service p first).effect)) [
      | None ↦ λ passes. rw (own_done s who service p) (effect_lengths s who service p passes)
      | Some nrc ↦ λ refused. refused_lengths s who p nrc
    ] refl

served_lengths : (s : State) (who : ℕ) (service : Option Service) (p : List ℕ) → SameLengths s (ecu.done s who p (ecu.served s who service p).effect)
served_lengths s who None p = λ id. refl
served_lengths s who (Some service) p = service_lengths s who service p

answered_lengths : (s : State) (who index : ℕ) → SameLengths s (ecu.answered s who index)
answered_lengths s who index =
    entered_lengths (record s { answers = answers.rows_moved_on s.answers index }) who (ecu.enter_of (slice_get s.answers index))

pub request_lengths : (s : State) (who : ℕ) (p : List ℕ) → SameLengths s (ecu.after_request s who p)
request_lengths s who p =
    let done = ecu.done s who p (ecu.decision s who p).effect in
    lengths_then s done (ecu.kept_alive done who (ecu.delay s who p))
    (by_decision s who p (λ e. SameLengths s (ecu.done s who p e)) (λ own. served_lengths s who (service_of (ecu.sid p)) p) (λ id. refl)
    (answered_lengths s who))
    (either done _ done (is_holder done who) (λ id. refl) (λ id. refl))
