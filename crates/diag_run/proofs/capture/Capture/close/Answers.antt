use Rattle.std.proofs.Common.{refl, sym, subst}
use Rattle.std.proofs.lemmas.Result.{err_from_is_err_and}
use Rattle.diag_run.specs.declared.capture.CaptureFault.{CaptureFault}
use Rattle.diag_run.specs.Capturing.{HaltsEnded}
use Rattle.diag_run.proofs.Pieces.{close_front, close_whole, end_halts, end_own, writings_failed, writings_ok, writings_stop}
use Rattle.diag_run.proofs.capture.Capture.close.Goals as goal
use Rattle.diag_run.specs.Wanted.{wanted}

pub returns-in-Err-clause-err : goal.returns-in-Err-clause-err
returns-in-Err-clause-err g c = (
  c.stop.ensures.sent.0,
  c.stop.ensures.sent.1,
  end_halts g.S.Sink g.S.Sink.took g.S.Sink.aim g.S.Sink.written g.S.Ending.ends c.args.self.now c.in-Err.fault c.stop.result c.add_end.new.text.items c.stop.ensures.sent.0 c.in-Err.ensures.kept c.in-Err.ensures.err c.stop.ensures.sent.2,
)

pub returns-in_ok-write_out-in-Ok-clause-ok : goal.returns-in_ok-write_out-in-Ok-clause-ok
returns-in_ok-write_out-in-Ok-clause-ok g c =
    let added = c.in-Ok.ensures.ok in (
      c.add_end.new.text.items,
      c.in_ok-write_out-in-Ok.ensures.ok,
      close_whole g.S.Sink g.S.Sink.took g.S.Sink.aim g.S.Sink.written g.S.Ending.ends c.args.self.now added.more c.in-Ok.status added.holds c.args.self.now c.add_end.new.text.items c.add_end.new.text.items refl added.grown refl,
    )

pub returns-in_err-write_out-in-Ok-clause-err : goal.returns-in_err-write_out-in-Ok-clause-err
returns-in_err-write_out-in-Ok-clause-err g c =
    let p = err_from_is_err_and c.from_residual.result c.from_residual.ensures.1 in
    let added = c.in-Ok.ensures.ok in
    let failed = c.in_err-write_out-in-Ok.ensures.err in
    rw (p.1, p.2) (
      failed.1.0,
      failed.1.3,
      subst (λ (f : CaptureFault). HaltsEnded g.S.Sink.took (wanted g.S.Sink.written g.S.Ending.ends g.S.Sink.aim) c.args.self.now f failed.1.0) (sym failed.0)
          (close_front g.S.Sink g.S.Sink.took g.S.Sink.aim g.S.Sink.written g.S.Ending.ends c.args.self.now added.more c.in-Ok.status added.holds c.add_end.new.text.items failed.1.0 added.grown (failed.1.1, failed.1.2)),
    )

pub returns-in-Err-clause-device : goal.returns-in-Err-clause-device
returns-in-Err-clause-device g c =
    writings_stop g.W.Target.failed g.W.Target.sound c.args.out.now c.stop.new.out c.in-Err.fault c.stop.result c.add_end.new.text.items c.stop.ensures.sent.0
    (end_own g.S.Sink g.S.Sink.took g.S.Sink.aim g.S.Sink.written g.S.Ending.ends c.args.self.now c.in-Err.fault c.in-Err.ensures.err) c.stop.ensures.sent.2 c.stop.ensures.failed c.stop.ensures.sound

pub returns-in_ok-write_out-in-Ok-clause-device : goal.returns-in_ok-write_out-in-Ok-clause-device
returns-in_ok-write_out-in-Ok-clause-device g c = writings_ok g.W.Target.failed g.W.Target.sound c.args.out.now c.write_out.new.out _ c.in_ok-write_out-in-Ok.ensures.sound

pub returns-in_err-write_out-in-Ok-clause-device : goal.returns-in_err-write_out-in-Ok-clause-device
returns-in_err-write_out-in-Ok-clause-device g c =
    let p = err_from_is_err_and c.from_residual.result c.from_residual.ensures.1 in
    rw (p.1, p.2) (writings_failed g.W.Target.failed g.W.Target.sound c.args.out.now c.write_out.new.out _ c.in_err-write_out-in-Ok.ensures.err.0 c.in_err-write_out-in-Ok.ensures.failed)
