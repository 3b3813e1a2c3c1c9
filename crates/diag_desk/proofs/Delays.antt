-- A run in which no reply goes later than at once.
use Rattle.std.proofs.Common.{◌≡◌, ℕ, false, List, [], ◌∷◌, refl, ◌∙◌}
use Rattle.diag_pdu.specs.declared.step.Step.{Step}
use Rattle.diag_pdu.specs.declared.step.Step.TheVariants.{Request, Ticks}
use Rattle.diag_ecu.specs.State.{State}
use Rattle.diag_ecu.specs.Respond.{may_delay}
use Rattle.diag_ecu.proofs.Delays.{elapse_keeps, none_later, request_keeps}
use Rattle.diag_desk.specs.declared.entry.Entry.{Entry}
use Rattle.diag_desk.specs.Legal.{after, after_step}
use Rattle.diag_desk.specs.Timed.{delay_to}

step_keeps : (s : State) (who : ℕ) (step : Step) → may_delay (after_step s who step) ≡ may_delay s
step_keeps s who (Request request) = request_keeps s who request.message
step_keeps s who (Ticks count) = elapse_keeps s who count

-- whether one may is as it was at the opening
pub run_keeps : (s : State) (J : List Entry) → may_delay (after s J) ≡ may_delay s
run_keeps s [] = refl
run_keeps s (e ∷ J) = run_keeps (after_step s e.who e.step) J ∙ step_keeps s e.who e.step

step_at_once : (s : State) (who : ℕ) (step : Step) → may_delay s ≡ false → delay_to s who step ≡ 0
step_at_once s who (Request request) none = none_later s who request.message none
step_at_once s who (Ticks count) none = refl

pub at_once : (s : State) (J : List Entry) (who : ℕ) (step : Step) → may_delay s ≡ false → delay_to (after s J) who step ≡ 0
at_once s J who step none = step_at_once (after s J) who step (run_keeps s J ∙ none)
