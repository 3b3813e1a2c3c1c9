use Rattle.std.proofs.Common.{◌≡◌, ◌∷◌, [], ◌++◌, Err, refl, sym, subst, ◌∙◌}
use Rattle.std.proofs.KnownBytes.{Appends-nil}
use Rattle.std.proofs.lemmas.Result.{IfErr-weaker, on_ok_weaker}
use Rattle.diag_run.specs.declared.capture.CaptureFault.{CaptureFault}
use Rattle.diag_run.specs.Capturing.{HaltsIn}
use Rattle.diag_run.proofs.Pieces.{answered_halts, at_own, both_on_ok, err_same, ok_is_no_fault, sees_more, sent_on, told_stop, write_halts, writings_ok, writings_out, writings_stop}
use Rattle.diag_run.proofs.capture.Capture.take_line.Goals as goal
use Rattle.diag_run.specs.Wanted.{wanted}

pub returns-in-Err-clause-err : goal.returns-in-Err-clause-err
returns-in-Err-clause-err g c = (
  c.stop.ensures.sent.0,
  c.stop.ensures.sent.1,
  answered_halts g.S.Sink g.S.Sink.took g.S.Sink.aim g.S.Sink.written g.S.Ending.ends c.args.self.now c.fault_at.result c.stop.result (c.args.bytes.now ++ 10 ∷ []) c.end_line.new.self.text.items c.stop.ensures.sent.0
      (subst (λ (f : CaptureFault). HaltsIn g.S.Sink.took (wanted g.S.Sink.written g.S.Ending.ends g.S.Sink.aim) c.args.self.now f (c.args.bytes.now ++ 10 ∷ []) c.end_line.new.self.text.items) (sym c.fault_at.ensures)
      c.in-Err.ensures.err)
      c.stop.ensures.sent.2,
)

pub returns-then-len-gt-TEXT_LIMIT-clause-ok : goal.returns-then-len-gt-TEXT_LIMIT-clause-ok
returns-then-len-gt-TEXT_LIMIT-clause-ok g c =
    let mid = c.end_line.new.self in
    on_ok_weaker c.write_out.result
    (λ w. (mid.text.items, w.0, sent_on g.S.Sink g.S.Sink.took g.S.Sink.aim g.S.Sink.written g.S.Ending.ends c.args.self.now mid _ (c.args.bytes.now ++ 10 ∷ []) c.in_default.ensures.ok refl refl refl w.1))
    (both_on_ok _ _ c.write_out.result c.write_out.ensures.ok c.write_out.ensures.none)

pub returns-then-len-gt-TEXT_LIMIT-clause-err : goal.returns-then-len-gt-TEXT_LIMIT-clause-err
returns-then-len-gt-TEXT_LIMIT-clause-err g c =
    IfErr-weaker c.write_out.result _ _
    (λ fault failed. (
      failed.1.0,
      failed.1.3,
      subst (λ (f : CaptureFault). HaltsIn g.S.Sink.took (wanted g.S.Sink.written g.S.Ending.ends g.S.Sink.aim) c.args.self.now f (c.args.bytes.now ++ 10 ∷ []) failed.1.0) (sym failed.0)
          (write_halts g.S.Sink g.S.Sink.took g.S.Sink.aim g.S.Sink.written g.S.Ending.ends c.args.self.now c.end_line.new.self (c.args.bytes.now ++ 10 ∷ []) failed.1.0 c.in_default.ensures.ok (failed.1.1, failed.1.2)),
    ))
    c.write_out.ensures.err

pub returns-clause-ok : goal.returns-clause-ok
returns-clause-ok g c = ([], Appends-nil _, c.in_default.ensures.ok)

pub returns-in-Err-clause-seen : goal.returns-in-Err-clause-seen
returns-in-Err-clause-seen g c =
    sees_more g.S.Sink g.S.Sink.took g.S.Sink.aim g.S.Sink.written g.S.Ending.ends c.args.self.now c.args.bytes.now (λ fault. c.end_line.result ≡ Err fault) _
    (λ fault is. told_stop _ c.in-Err.fault fault c.fault_at.result c.stop.result c.end_line.new.self.text.items c.stop.ensures.sent.0 c.fault_at.ensures c.stop.ensures.sent.2
    (err_same c.in-Err.fault fault (sym c.in-Err.is ∙ is)))
    c.end_line.ensures.seen

pub returns-then-len-gt-TEXT_LIMIT-clause-seen : goal.returns-then-len-gt-TEXT_LIMIT-clause-seen
returns-then-len-gt-TEXT_LIMIT-clause-seen g c =
    sees_more g.S.Sink g.S.Sink.took g.S.Sink.aim g.S.Sink.written g.S.Ending.ends c.args.self.now c.args.bytes.now (λ fault. c.end_line.result ≡ Err fault) _
    (λ fault is. absurd (ok_is_no_fault c.end_line.result _ fault c.in_default.is is)) c.end_line.ensures.seen

pub returns-clause-seen : goal.returns-clause-seen
returns-clause-seen g c =
    sees_more g.S.Sink g.S.Sink.took g.S.Sink.aim g.S.Sink.written g.S.Ending.ends c.args.self.now c.args.bytes.now (λ fault. c.end_line.result ≡ Err fault) _
    (λ fault is. absurd (ok_is_no_fault c.end_line.result _ fault c.in_default.is is)) c.end_line.ensures.seen

pub returns-in-Err-clause-device : goal.returns-in-Err-clause-device
returns-in-Err-clause-device g c =
    writings_stop g.W.Target.failed g.W.Target.sound c.args.out.now c.stop.new.out c.fault_at.result c.stop.result c.end_line.new.self.text.items c.stop.ensures.sent.0
    (at_own _ _ c.fault_at.result c.fault_at.ensures) c.stop.ensures.sent.2 c.stop.ensures.failed c.stop.ensures.sound

pub returns-then-len-gt-TEXT_LIMIT-clause-device : goal.returns-then-len-gt-TEXT_LIMIT-clause-device
returns-then-len-gt-TEXT_LIMIT-clause-device g c =
    writings_out g.W.Target.failed g.W.Target.sound c.args.out.now c.write_out.new.out c.write_out.result c.write_out.ensures.sound c.write_out.ensures.failed
    (IfErr-weaker c.write_out.result _ _ (λ fault failed. failed.0) c.write_out.ensures.err)

pub returns-clause-device : goal.returns-clause-device
returns-clause-device g c = writings_ok g.W.Target.failed g.W.Target.sound c.args.out.now c.args.out.now _ (λ sound. sound)
