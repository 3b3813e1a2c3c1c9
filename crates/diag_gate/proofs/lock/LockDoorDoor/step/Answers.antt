use Rattle.std.proofs.Common.{length, rules, ap, ◌∙◌}
use Rattle.diag_gate.specs.Seats.{LockView}
use Rattle.diag_gate.proofs.Given.{not_full, timed_by-append}
use Rattle.diag_gate.proofs.lock.LockDoorDoor.step.Goals as goal

pub returns-then-is_full-clause-full : goal.returns-then-is_full-clause-full
returns-then-is_full-clause-full g c = search rules

pub returns-clause-lawful : goal.returns-clause-lawful
returns-clause-lawful g c = search rules

pub returns-then-is_err-clause-full : goal.returns-then-is_err-clause-full
returns-then-is_err-clause-full g c = λ e. absurd (not_full c.is_full.result c.self.inside.given.entries c.self.inside.delays.items 1000000
    c.if-is_full.false c.is_full.ensures c.self.invariant (ap (λ (v : LockView). length v.given) c.self.view_is ∙ e))

pub returns-in_err-reply-clause-full : goal.returns-in_err-reply-clause-full
returns-in_err-reply-clause-full g c = λ e. absurd (not_full c.is_full.result c.self.inside.given.entries c.self.inside.delays.items 1000000
    c.if-is_full.false c.is_full.ensures c.self.invariant (ap (λ (v : LockView). length v.given) c.self.view_is ∙ e))

pub returns-clause-full : goal.returns-clause-full
returns-clause-full g c = λ e. absurd (not_full c.is_full.result c.self.inside.given.entries c.self.inside.delays.items 1000000
    c.if-is_full.false c.is_full.ensures c.self.invariant (ap (λ (v : LockView). length v.given) c.self.view_is ∙ e))

pub returns-clause-given : goal.returns-clause-given
returns-clause-given g c = search (rules, timed_by-append)
