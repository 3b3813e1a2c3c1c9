use Rattle.std.proofs.Common.{[], ◌+◌, List, ℕ, refl, sym, subst, ◌∙◌}
use Rattle.std.proofs.lemmas.List.{append-nil}
use Rattle.std.proofs.lemmas.Result.{IfErr-weaker, on_ok_weaker}
use Rattle.diag_run.specs.declared.capture.CaptureFault.{CaptureFault}
use Rattle.diag_run.specs.Capturing.{HaltsIn}
use Rattle.diag_run.specs.Faults.{fault_at}
use Rattle.diag_run.proofs.Pieces.{answered_halts, at_own, begun_goes_on, both_on_ok, err_same, keep_halts, ok_is_no_fault, told_stop, write_fails, writings_out, writings_stop}
use Rattle.diag_run.proofs.capture.Capture.take_begun.Goals as goal
use Rattle.diag_run.specs.Wanted.{wanted}

pub returns-in-Err-clause-err : goal.returns-in-Err-clause-err
returns-in-Err-clause-err g c =
    let capture = c.args.self.now in
    let bytes = c.args.bytes.now in
    let kept : HaltsIn g.S.Sink.took (wanted g.S.Sink.written g.S.Ending.ends g.S.Sink.aim) capture c.fault_at.result bytes capture.text.items =
    subst (λ (f : CaptureFault). HaltsIn g.S.Sink.took (wanted g.S.Sink.written g.S.Ending.ends g.S.Sink.aim) capture f bytes capture.text.items) (sym c.fault_at.ensures)
    (subst (λ (b : List ℕ). HaltsIn g.S.Sink.took (wanted g.S.Sink.written g.S.Ending.ends g.S.Sink.aim) capture (fault_at (capture.lines + 1) c.in-Err.fault) b capture.text.items) (append-nil bytes)
    (keep_halts g.S.Sink g.S.Sink.took g.S.Sink.aim g.S.Sink.written g.S.Ending.ends capture bytes [] c.in-Err.fault c.requires.line c.in-Err.ensures.some c.in-Err.ensures.err)) in (
      c.stop.ensures.sent.0,
      c.stop.ensures.sent.1,
      answered_halts g.S.Sink g.S.Sink.took g.S.Sink.aim g.S.Sink.written g.S.Ending.ends capture c.fault_at.result c.stop.result bytes capture.text.items c.stop.ensures.sent.0 kept c.stop.ensures.sent.2,
    )

pub returns-clause-ok : goal.returns-clause-ok
returns-clause-ok g c =
    let capture = c.args.self.now in
    on_ok_weaker c.write_out.result
    (λ w. (
      capture.text.items,
      w.0,
      begun_goes_on g.S.Sink g.S.Sink.took g.S.Sink.aim g.S.Sink.written g.S.Ending.ends capture _ c.args.bytes.now capture.text.items c.requires.line refl c.in_default.ensures.ok refl (rw w.1 (append-nil capture.text.items)),
    ))
    (both_on_ok _ _ c.write_out.result c.write_out.ensures.ok c.write_out.ensures.none)

pub returns-clause-err : goal.returns-clause-err
returns-clause-err g c =
    IfErr-weaker c.write_out.result _ _
    (λ fault failed. (
      failed.1.0,
      failed.1.3,
      subst (λ (f : CaptureFault). HaltsIn g.S.Sink.took (wanted g.S.Sink.written g.S.Ending.ends g.S.Sink.aim) c.args.self.now f c.args.bytes.now failed.1.0) (sym failed.0)
          (write_fails g.S.Sink g.S.Sink.took g.S.Sink.aim g.S.Sink.written g.S.Ending.ends c.args.self.now c.args.bytes.now failed.1.0 (failed.1.1, failed.1.2)),
    ))
    c.write_out.ensures.err

pub returns-in-Err-clause-long : goal.returns-in-Err-clause-long
returns-in-Err-clause-long g c = λ long.
    told_stop _ c.in-Err.fault _ c.fault_at.result c.stop.result c.args.self.now.text.items c.stop.ensures.sent.0 c.fault_at.ensures c.stop.ensures.sent.2
    (err_same c.in-Err.fault _ (sym c.in-Err.is ∙ c.keep.ensures.long long))

pub returns-clause-long : goal.returns-clause-long
returns-clause-long g c = λ long. absurd (ok_is_no_fault c.keep.result _ _ c.in_default.is (c.keep.ensures.long long))

pub returns-in-Err-clause-device : goal.returns-in-Err-clause-device
returns-in-Err-clause-device g c =
    writings_stop g.W.Target.failed g.W.Target.sound c.args.out.now c.stop.new.out c.fault_at.result c.stop.result c.args.self.now.text.items c.stop.ensures.sent.0
    (at_own _ _ c.fault_at.result c.fault_at.ensures) c.stop.ensures.sent.2 c.stop.ensures.failed c.stop.ensures.sound

pub returns-clause-device : goal.returns-clause-device
returns-clause-device g c =
    writings_out g.W.Target.failed g.W.Target.sound c.args.out.now c.write_out.new.out c.write_out.result c.write_out.ensures.sound c.write_out.ensures.failed
    (IfErr-weaker c.write_out.result _ _ (λ fault failed. failed.0) c.write_out.ensures.err)
