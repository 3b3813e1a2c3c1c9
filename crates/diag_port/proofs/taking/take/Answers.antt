use Rattle.std.proofs.Common.{List, refl, subst}
use Rattle.std.proofs.lemmas.Result.{IfErr-weaker}
use Rattle.std.specs.Prelude.{IfErr, OnErr, OnOk}
use Rattle.diag_tp.proofs.Given.{gives_ticks}
use Rattle.diag_tp.specs.declared.sent.Sent.{Sent}
use Rattle.diag_port.specs.Port.{PortState, port_of}
use Rattle.diag_port.specs.Fault.{IsFaultBy}
use Rattle.diag_port.specs.Standing.{GivesStep, RefusedEvent, TookEvent}
use Rattle.diag_port.proofs.Faults.{fault_by}
use Rattle.diag_port.proofs.taking.take.Goals as goal

pub returns-in-Ticks-clause-full : goal.returns-in-Ticks-clause-full
returns-in-Ticks-clause-full g c =
    IfErr-weaker c.take_ticks.result _ _ (λ fault. fault_by g.T.Fault.From.from_gives fault (λ full. (
      full,
      λ s E A Q h. rw (← c.in-Ticks.ensures.is, gives_ticks s E c.in-Ticks.count) refl,
    ))) c.take_ticks.ensures.full

pub returns-clause-took : goal.returns-clause-took
returns-clause-took g c =
    let done = c.take_frame.ensures.took in
    let new = c.take_frame.new in
    let Took : PortState → List Sent → Type 0 = λ old out.
    OnOk c.take_frame.result (TookEvent g.T.TakeSteps.takes old (port_of new.port) c.args.taker.now new.taker c.args.who c.args.event.now out new.out.items) in
    subst (λ old. Took old c.args.out.now.items) c.in_ok-taken.ensures.same
    (subst (λ out. Took (port_of c.prepare.new.port) out) c.in_ok-taken.ensures.out done)

pub returns-clause-refused : goal.returns-clause-refused
returns-clause-refused g c =
    let done = c.take_frame.ensures.refused in
    let new = c.take_frame.new in
    let Refused : PortState → List Sent → Type 0 = λ old out.
    OnErr c.take_frame.result (RefusedEvent g.T.TakeSteps.refuses old (port_of new.port) c.args.taker.now new.taker out new.out.items) in
    subst (λ old. Refused old c.args.out.now.items) c.in_ok-taken.ensures.same
    (subst (λ out. Refused (port_of c.prepare.new.port) out) c.in_ok-taken.ensures.out done)

pub returns-clause-full : goal.returns-clause-full
returns-clause-full g c =
    subst (λ (old : PortState). IfErr c.take_frame.result (IsFaultBy g.T.Fault.From.from_gives
    (g.T.TakeSteps.is_full c.args.taker.now × GivesStep old.link c.args.event.now))) c.in_ok-taken.ensures.same c.take_frame.ensures.full
