use Rattle.diag_gate.specs.Views.{IsLawful}
use Rattle.diag_gate.proofs.Delays.{lawful_of, ticks_lawful}
use Rattle.diag_gate.proofs.lock.lawful_step.Goals as goal
use Rattle.diag_gate.proofs.lock.lawful_step.Goals.{After-after_ms}

lawful : (c : After-after_ms) → IsLawful c.args.who c.args.step.now c.in_ok-reply.reply c.after_ms.result
lawful c = lawful_of c.args.desk.now c.step.new.self c.args.who c.args.step.now c.in_ok-reply.reply c.after_ms.result c.in_ok-reply.ensures.ok
    c.journal-journal.ensures.opened c.journal-journal.ensures.legal c.after_ms.ensures

pub returns-clause-lawful : goal.returns-clause-lawful
returns-clause-lawful c = lawful (goal.at.returns-clause-lawful c).After-after_ms

pub returns-clause-ticks_at_once : goal.returns-clause-ticks_at_once
returns-clause-ticks_at_once c = ticks_lawful _ _ _ _ (lawful (goal.at.returns-clause-ticks_at_once c).After-after_ms)
