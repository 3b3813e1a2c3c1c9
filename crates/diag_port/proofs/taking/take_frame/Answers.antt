use Rattle.std.proofs.Common.{◌≡◌, Some, None, List, ap, refl, subst, sym, ◌∙◌}
use Rattle.std.proofs.lemmas.Option.{none-some}
use Rattle.std.proofs.lemmas.Result.{err_from_is_err_and}
use Rattle.std.specs.Prelude.{IfErr, IsSome, option_copied}
use Rattle.diag_pdu.specs.declared.step.Step.TheVariants as step
use Rattle.diag_tp.specs.declared.sent.Sent.{Sent}
use Rattle.diag_tp.specs.Gives.{gives}
use Rattle.diag_tp.specs.Link.{EachHistory, asked_of}
use Rattle.diag_port.specs.declared.port.Port.{Port}
use Rattle.diag_port.specs.Releasing.{sid_of}
use Rattle.diag_port.specs.Port.{Grew, Received, port_of}
use Rattle.diag_port.specs.Fault.{IsFaultBy}
use Rattle.diag_port.specs.Standing.{GivesStep, TookEvent, timed_asks}
use Rattle.diag_port.proofs.Faults.{fault_by}
use Rattle.diag_port.proofs.Standing.{frame_took}
use Rattle.diag_port.proofs.taking.take_frame.Goals as goal
use Rattle.diag_port.proofs.taking.take_frame.Goals.{then-after-eq0+then-is_empty, else-after-eq0}

pub returns-clause-took : goal.returns-clause-took
returns-clause-took g c =
    let old = c.args.port.now in
    let who = c.args.who in
    let e = c.args.event.now in
    let out = c.args.out.now.items in
    let asked = step.Request c.in-Some.request.now in
    let after = c.in_ok-after.after in
    let reply = c.take_request.new.reply in
    let x = timed_asks who c.in-Some.request.now reply after in
    let given : EachHistory old.link.state (λ s E A Q. Some asked ≡ gives s E e) = λ s E A Q h.
    ap asked_of (sym (ap option_copied c.in-Some.is) ∙ c.request.ensures) ∙ c.requires.prepared.step s E A Q h in
    let whole : (new : Port) (sent : List Sent) → new.link.state.now ≡ old.link.state.now → new.pace ≡ old.pace
    → Grew out sent (Received (port_of old) (port_of new) e after (sid_of asked) reply)
    → TookEvent g.T.TakeSteps.takes (port_of old) (port_of new) c.args.taker.now c.take_request.new.self who e out sent =
    λ new sent time pace got. record {
      asked = Some x;
      kept = subst (λ now. g.T.TakeSteps.takes c.args.taker.now now x c.take_request.new.self) c.now.ensures.state c.in_ok-after.ensures.took;
      sent = record {
        more = got.more;
        grown = got.grown;
        holds = frame_took (port_of old) (port_of new) who e (Some asked) reply after got.more c.requires.prepared.is.frame given
            (λ none. absurd (none-some _ (sym none))) time pace got.holds;
      };
    } in
    elim c.if-after-eq0.branch [
      | then-after-eq0+then-is_empty w ↦ (
          let new = w.receive_at_once.new in
          let done = w.receive_at_once.ensures in
          rw (w.port-is, w.out-is) (whole new.port new.out.items done.time done.pace
          (subst (λ n. Grew out new.out.items (Received (port_of old) (port_of new.port) e n (sid_of asked) reply)) (sym w.if-after-eq0.true) (done.received (sid_of asked)))))
      | else-after-eq0 w ↦ (
          let new = w.receive_held.new in
          let done = w.receive_held.ensures in
          rw (w.port-is, w.out-is) (whole new.port new.out.items done.time done.pace
          (subst (λ n. Grew out new.out.items (Received (port_of old) (port_of new.port) e after n reply)) w.service_of-sid.ensures done.received)))
    ]

pub returns-in_default-clause-took : goal.returns-in_default-clause-took
returns-in_default-clause-took g c = record { asked = None; kept = refl; sent = c.take_silent.ensures.took c.args.who }

pub returns-in_err-after-clause-full : goal.returns-in_err-after-clause-full
returns-in_err-after-clause-full g c =
    let old = c.args.port.now in
    let e = c.args.event.now in
    let some : GivesStep old.link.state e = λ s E A Q h.
    subst (λ o. IsSome o) (ap asked_of (sym (ap option_copied c.in-Some.is) ∙ c.request.ensures) ∙ c.requires.prepared.step s E A Q h) refl in
    let exit = err_from_is_err_and c.from_residual.result c.from_residual.ensures.1 in
    let P = IsFaultBy g.T.Fault.From.from_gives (g.T.TakeSteps.is_full c.args.taker.now × GivesStep old.link.state e) in
    subst (λ r. IfErr r P) (sym exit.1)
    (subst P (sym exit.2) (fault_by g.T.Fault.From.from_gives _ (λ full. (full, some)) c.in_err-after.ensures.full))
