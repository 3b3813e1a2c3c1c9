-- Where a row of answers decides, and where none does.
use Rattle.std.proofs.Common.{◌≡◌, ℕ, Bool, true, false, cond, List, [], Option, Some, None, refl, ap}
use Rattle.std.specs.Prelude.{unwrap_or, if◌then◌else◌}
use Rattle.diag_setup.specs.declared.setup.ServerParameters.{ServerParameters}
use Rattle.diag_store.specs.Answers as answers
use Rattle.diag_store.specs.declared.answers.AnswerRow.{AnswerRow}
use Rattle.diag_store.specs.declared.dids.DidRow.{DidRow}
use Rattle.diag_store.specs.declared.dtcs.Dtc.{Dtc}
use Rattle.diag_store.specs.declared.routines.Routine.{Routine}
use Rattle.diag_store.specs.declared.security.SecurityState.{SecurityState}
use Rattle.diag_ecu.specs.declared.effect.Effect.{Effect}
use Rattle.diag_ecu.specs.declared.effect.Effect.TheVariants.{Nothing, Answer}
use Rattle.diag_ecu.specs.State.{State}
use Rattle.diag_ecu.specs.Respond.{access_of, decision, decision_by, index_for, is_barred, outcome, own_reply, reply, reply_by, rule_answers, rule_for}

pub rule_none : (s : State) (who : ℕ) (p : List ℕ) → s.answers ≡ [] → rule_for s who p ≡ None
rule_none s who p none = ap (λ (rows : List AnswerRow). answers.row_for rows (access_of s who) p) none

pub decision_none : (s : State) (who : ℕ) (p : List ℕ) → s.answers ≡ [] → decision s who p ≡ record { effect = (outcome s who p).effect; after_ms = 0 }
decision_none s who p none = ap (λ rule. decision_by s who p (index_for s who p) rule) (rule_none s who p none)

pub reply_none : (s : State) (who : ℕ) (functional : Bool) (p : List ℕ) → s.answers ≡ [] → reply s who functional p ≡ own_reply s who functional p
reply_none s who functional p none = ap (λ rule. reply_by s who functional p rule) (rule_none s who p none)

-- what holds of the services' own effect where no row answers, of none, and of each row's answer, holds of what is decided
by_rule : (s : State) (who : ℕ) (p : List ℕ) (index : Option ℕ) (rule : Option AnswerRow) (P : Effect → Type 0)
    → (rule_answers rule ≡ false → P (outcome s who p).effect) → P Nothing → ((n : ℕ) → P (Answer n)) → P (decision_by s who p index rule).effect
by_rule s who p index None P own nothing answer = own refl
by_rule s who p index (Some row) P own nothing answer =
    elim (answers.has_reply row) as (λ b. (b ≡ false → P (outcome s who p).effect)
    → P (cond b (if is_barred s who row then Nothing else Answer (unwrap_or index 0)) (outcome s who p).effect)) [
      | true ↦ λ own. elim (is_barred s who row) as (λ b. P (cond b Nothing (Answer (unwrap_or index 0)))) [
        | true ↦ nothing
        | false ↦ answer (unwrap_or index 0)
      ]
      | false ↦ λ own. own refl
    ] own

pub by_decision : (s : State) (who : ℕ) (p : List ℕ) (P : Effect → Type 0) → (rule_answers (rule_for s who p) ≡ false → P (outcome s who p).effect)
    → P Nothing → ((n : ℕ) → P (Answer n)) → P (decision s who p).effect
by_decision s who p = by_rule s who p (index_for s who p) (rule_for s who p)

-- where no row answers, the reply is the services' own
pub own_by : (s : State) (who : ℕ) (functional : Bool) (p : List ℕ) (rule : Option AnswerRow) → rule_answers rule ≡ false
    → reply_by s who functional p rule ≡ own_reply s who functional p
own_by s who functional p None none = refl
own_by s who functional p (Some row) none = rw none refl

-- an ECU of the parts of another
pub of_parts : (s : State) (values : ServerParameters) (dids : List DidRow) (dtcs : List Dtc) (routines : List Routine) (security : SecurityState)
    (rows : List AnswerRow) → values ≡ s.values → dids ≡ s.dids → dtcs ≡ s.dtcs → routines ≡ s.routines → security ≡ s.security → rows ≡ s.answers
    → record s { values = values; dids = dids; dtcs = dtcs; routines = routines; security = security; answers = rows } ≡ s
of_parts s values dids dtcs routines security rows a b c d e f = rw (a, b, c, d, e, f) refl
