-- How long after its request an answer goes: what the rows of answers say, of which no step makes one or changes that.
use Rattle.std.proofs.Common.{◌≡◌, ℕ, zero, suc, ◌-◌, ◌<◌, Bool, true, false, cond, List, [], ◌∷◌, drop, refl, arith, ◌∙◌, Option, Some, None}
use Rattle.std.proofs.lemmas.Bool.{ltb-false, or_parts}
use Rattle.std.specs.Prelude.{◌==◌, if◌then◌else◌, nat_le, find, slice_get}
use Rattle.diag_setup.specs.Setup.{first_holding}
use Rattle.diag_store.specs.Answers as answers
use Rattle.diag_store.specs.Routines as routines
use Rattle.diag_store.specs.Security as security
use Rattle.diag_store.specs.declared.answers.AnswerRow.{AnswerRow}
use Rattle.diag_store.proofs.AnswerLemmas.{late_stays}
use Rattle.diag_ecu.specs.declared.effect.Effect.TheVariants.{Nothing, Serve, CountWrongKey}
use Rattle.diag_ecu.specs.declared.service.Service.{Service}
use Rattle.diag_ecu.specs.declared.service.Service.TheVariants.{DiagnosticSessionControl, SecurityAccess, RoutineControl}
use Rattle.diag_ecu.specs.declared.service.Nrc.{Nrc}
use Rattle.diag_ecu.specs.Bytes.{number_16}
use Rattle.diag_ecu.specs.Elapse.{delay_ticked, elapse, routines_ticked, s3_ticked, ticked}
use Rattle.diag_ecu.specs.Respond as ecu
use Rattle.diag_ecu.specs.Service.{is_of_wrong_key, row, service_of}
use Rattle.diag_ecu.specs.State.{State, entered, is_holder, relocked, s3_filled, session_ended}
use Rattle.diag_ecu.proofs.RuleLemmas.{by_decision}

-- ---- where no row has its answer go later, each goes at once

abbrev after_of : Option AnswerRow → ℕ
after_of None = 0
after_of (Some row) = row.after_ms

found_at_once : (test : AnswerRow → Bool) (rows : List AnswerRow) → answers.any_late rows ≡ false → after_of (find test rows) ≡ 0
found_at_once test [] none = refl
found_at_once test (row ∷ rows) none =
    let parts = or_parts (answers.is_late row) (answers.any_late rows) none in
    let here = ltb-false 0 row.after_ms parts.0 in
    let rest = found_at_once test rows parts.1 in
    elim (test row) as (λ b. after_of (cond b (Some row) (find test rows)) ≡ 0) [
      | true ↦ omega arith
      | false ↦ rest
    ]

after_by : (s : State) (who : ℕ) (p : List ℕ) (index : Option ℕ) (rule : Option AnswerRow) → (ecu.decision_by s who p index rule).after_ms ≡ after_of rule
after_by s who p index None = refl
after_by s who p index (Some row) = refl

pub none_later : (s : State) (who : ℕ) (p : List ℕ) → ecu.may_delay s ≡ false → ecu.delay s who p ≡ 0
none_later s who p none =
    after_by s who p (ecu.index_for s who p) (ecu.rule_for s who p)
    ∙ found_at_once (answers.applies (ecu.access_of s who) p) s.answers none

-- ---- no move changes whether one may

abbrev KeepsDelays : State → State → Type 0
KeepsDelays s new = ecu.may_delay new ≡ ecu.may_delay s

either_keeps : (s a b : State) (t : Bool) → KeepsDelays s a → KeepsDelays s b → KeepsDelays s (cond t a b)
either_keeps s a b true x y = x
either_keeps s a b false x y = y

entered_keeps : (s : State) (who n : ℕ) → KeepsDelays s (entered s who n)
entered_keeps s who n =
    let ends : State = if is_holder s who then session_ended s else s in
    let other : State = s3_filled (record (relocked s) { holder = Some who; session = n }) in
    either_keeps s s (if n == 1 then ends else other) (n == 0) refl
    (either_keeps s ends other (n == 1) (either_keeps s (session_ended s) s (is_holder s who) refl refl) refl)

effect_keeps : (s : State) (who : ℕ) (service : Service) (p : List ℕ) → KeepsDelays s (ecu.effect s who service p)
effect_keeps s who DiagnosticSessionControl p = entered_keeps s who (ecu.sub p)
effect_keeps s who SecurityAccess p =
    either_keeps s (record s { security = security.after_seed s.security who (ecu.sub p) })
    (record s { security = security.after_key s.security who (ecu.key_level p) (drop 2 p) }) (ecu.is_seed_request s p) refl refl
effect_keeps s who RoutineControl p =
    either_keeps s (record s { routines = routines.started s.routines (number_16 p 2) })
    (if ecu.sub p == 0x02 then record s { routines = routines.stopped s.routines (number_16 p 2) } else s) (ecu.sub p == 0x01) refl
    (either_keeps s (record s { routines = routines.stopped s.routines (number_16 p 2) }) s (ecu.sub p == 0x02) refl refl)
effect_keeps s who service p = refl

served_keeps : (s : State) (who : ℕ) (service : Service) (p : List ℕ) (first : Option Nrc)
    → KeepsDelays s (ecu.done s who p (ecu.outcome_of s service p first).effect)
served_keeps s who service p None =
    elim (row service).changes as (λ b. KeepsDelays s (ecu.done s who p (cond b (Serve service) Nothing))) [
      | true ↦ effect_keeps s who service p
      | false ↦ refl
    ]
served_keeps s who service p (Some nrc) =
    elim (is_of_wrong_key nrc) as (λ b. KeepsDelays s (ecu.done s who p (cond b CountWrongKey Nothing))) [ true ↦ refl | false ↦ refl ]

own_keeps : (s : State) (who : ℕ) (service : Option Service) (p : List ℕ) → KeepsDelays s (ecu.done s who p (ecu.served s who service p).effect)
own_keeps s who None p = refl
own_keeps s who (Some service) p = served_keeps s who service p (first_holding (ecu.checks s who service p))

answered_keeps : (s : State) (who index : ℕ) → KeepsDelays s (ecu.answered s who index)
answered_keeps s who index =
    let moved : State = record s { answers = answers.rows_moved_on s.answers index } in
    entered_keeps moved who (ecu.enter_of (slice_get s.answers index)) ∙ late_stays s.answers index

pub request_keeps : (s : State) (who : ℕ) (p : List ℕ) → ecu.may_delay (ecu.after_request s who p) ≡ ecu.may_delay s
request_keeps s who p =
    let done = ecu.done s who p (ecu.decision s who p).effect in
    either_keeps done _ done (is_holder done who) refl refl
    ∙ by_decision s who p (λ e. KeepsDelays s (ecu.done s who p e)) (λ own. own_keeps s who (service_of (ecu.sid p)) p) refl (answered_keeps s who)

tick_keeps : (s : State) (who : ℕ) → KeepsDelays s (ticked s who)
tick_keeps s who =
    let late = routines_ticked (delay_ticked s who) in
    either_keeps s (s3_ticked late) (delay_ticked s who) (is_holder s who)
    (either_keeps s (session_ended late) (record late { s3_left = late.s3_left - 1 }) (nat_le late.s3_left 1) refl refl) refl

pub elapse_keeps : (s : State) (who n : ℕ) → ecu.may_delay (elapse s who n) ≡ ecu.may_delay s
elapse_keeps s who zero = refl
elapse_keeps s who (suc n) = elapse_keeps (ticked s who) who n ∙ tick_keeps s who
