use Rattle.std.proofs.Common.{Option, Some, None, refl, ap, subst, sym, ◌∙◌, inl, inr}
use Rattle.std.specs.Prelude.{IsTrue, IsSome}
use Rattle.diag_can.specs.LentEvent.{event_of}
use Rattle.diag_pdu.specs.declared.step.Step.{Step}
use Rattle.diag_tp.specs.Gives.{gives, is_request}
use Rattle.diag_tp.specs.Link.{is_frame}
use Rattle.diag_port.proofs.port.Port.gives_step.Goals as goal

some_of : (o : Option Step) → IsTrue (is_request o) → IsSome o
some_of None h = cc
some_of (Some x) h = refl

pub returns-in-Ticks : goal.returns-in-Ticks
returns-in-Ticks c = λ s E A Q h. rw (← c.in-Ticks.ensures.is, (c.gives_law.ensures s E).ticks c.in-Ticks.field-0) (λ e. refl, λ e. refl)

pub returns-in-Physical : goal.returns-in-Physical
returns-in-Physical c = λ s E A Q h.
    let frame : IsTrue (is_frame c.args.event.now) = elim c.in-Physical.is [
      | inl e ↦ subst (λ x. IsTrue (is_frame x)) (ap event_of (sym e.1) ∙ c.kind.ensures.is) refl
      | inr e ↦ subst (λ x. IsTrue (is_frame x)) (ap event_of (sym e.1) ∙ c.kind.ensures.is) refl
    ] in
    let same = c.completes.ensures.gives s E A Q h frame in
    (λ e. some_of (gives s E c.args.event.now) (same.0 e), λ some. same.1 ((c.gives_law.ensures s E).frame c.args.event.now frame some))
