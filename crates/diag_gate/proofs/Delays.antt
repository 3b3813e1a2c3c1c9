-- How long after its request an answer goes, as a seat and a desk tell it.
use Rattle.std.proofs.Common.{◌≡◌, ℕ, false, List, ap, ◌∙◌, subst, Option, Result, Ok, Err, MatchResult, OnOk}
use Rattle.diag_pdu.specs.declared.step.Step.{Step}
use Rattle.diag_pdu.specs.declared.step.Step.TheVariants.{Request, Ticks}
use Rattle.diag_ecu.specs.Respond.{may_delay}
use Rattle.diag_desk.specs.declared.desk.StepFault.{StepFault}
use Rattle.diag_desk.specs.Entries.{entry}
use Rattle.diag_desk.specs.Legal.{IsOpening, Legal, Run, after, entered as with_entry}
use Rattle.diag_desk.specs.Timed.{delay_to, last_delay, timed}
use Rattle.diag_desk.proofs.Delays.{at_once}
use Rattle.diag_desk.proofs.TimedLemmas.{last_entered}
use Rattle.diag_gate.specs.Seats.{SeatView, Answered, Refused, waited}
use Rattle.diag_gate.specs.Views.{HasNoDelay, IsLawful}

pub seat_at_once : (s n : SeatView) (step : Step) (result : Result (Option (List ℕ)) StepFault)
    → (missed : ℕ) × MatchResult result (λ r. Answered (waited s missed) n step r) (λ e. Refused (waited s missed) n e)
    → may_delay s.opening ≡ false → OnOk result (n.delay ≡ 0)
seat_at_once s n step (Ok r) made none =
    ap (λ (x : SeatView). x.delay) made.1.seat ∙ at_once s.opening made.1.found s.who step none
seat_at_once s n step (Err e) made none = tt

-- what a desk tells of its last step is the delay of the step that it took
pub told_of : (old new : Run) (who : ℕ) (step : Step) (reply : Option (List ℕ)) (n : ℕ) → new ≡ with_entry old (entry who step reply)
    → n ≡ last_delay (timed new.opening new.journal) → n ≡ delay_to (after old.opening old.journal) who step
told_of old new who step reply n is told =
    told ∙ ap (λ (r : Run). last_delay (timed r.opening r.journal)) is ∙ last_entered old.opening old.journal (entry who step reply)

-- a step at a desk whose journal is legal
pub lawful_of : (old new : Run) (who : ℕ) (step : Step) (reply : Option (List ℕ)) (n : ℕ) → new ≡ with_entry old (entry who step reply)
    → IsOpening new.opening → Legal new.opening new.journal → n ≡ last_delay (timed new.opening new.journal) → IsLawful who step reply n
lawful_of old new who step reply n is opened legal told = record {
  desk = old;
  opened = subst (λ (r : Run). IsOpening r.opening) is opened;
  legal = subst (λ (r : Run). Legal r.opening r.journal) is legal;
  told = told_of old new who step reply n is told;
}

pub ticks_lawful : (who : ℕ) (step : Step) (reply : Option (List ℕ)) (n : ℕ) → IsLawful who step reply n → HasNoDelay step n
ticks_lawful who (Request request) reply n lawful = tt
ticks_lawful who (Ticks count) reply n lawful = lawful.told
