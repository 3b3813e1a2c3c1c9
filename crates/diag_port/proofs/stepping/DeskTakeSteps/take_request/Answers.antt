use Rattle.std.proofs.Common.{◌≡◌, ap, ◌∙◌}
use Rattle.diag_ecu.specs.Respond as ecu
use Rattle.diag_desk.specs.Entries.{asks}
use Rattle.diag_desk.specs.Legal.{Run, after}
use Rattle.diag_desk.specs.Timed.{last_delay, timed}
use Rattle.diag_desk.proofs.TimedLemmas.{last_entered}
use Rattle.diag_port.specs.Standing.{timed_asks}
use Rattle.diag_ecu.proofs.Delays.{none_later}
use Rattle.diag_port.proofs.stepping.DeskTakeSteps.take_request.Goals as goal
use Rattle.diag_port.proofs.stepping.DeskTakeSteps.take_request.Goals.{After-after_ms}

-- what the desk tells is the delay of the request, in the state before it
told : (c : After-after_ms) → c.after_ms.result ≡ ecu.delay (after c.args.self.now.opening c.args.self.now.journal) c.args.who c.args.request.now.message
told c =
    let old = c.args.self.now in
    let entry = asks c.args.who c.args.request.now c.in_ok-reply.field-0 in
    c.after_ms.ensures
    ∙ (ap (λ (r : Run). last_delay (timed r.opening r.journal)) c.in_ok-reply.ensures.ok ∙ last_entered old.opening old.journal entry)

pub returns-clause-took : goal.returns-clause-took
returns-clause-took c = (
  c.in_ok-reply.ensures.ok,
  ap (λ n. timed_asks c.args.who c.args.request.now c.in_ok-reply.field-0 n) (told c),
)

pub returns-clause-at_once : goal.returns-clause-at_once
returns-clause-at_once c h = told c ∙ none_later (after c.args.self.now.opening c.args.self.now.journal) c.args.who c.args.request.now.message h
