use Rattle.std.proofs.Common.{◌≡◌, ◌∷◌, [], ◌++◌, length, arith, length-append, sym, refl, append_assoc, ◌∙◌}
use Rattle.std.proofs.lemmas.List.{append-nil}
use Rattle.std.proofs.lemmas.Result.{IfErr-weaker, on_ok_weaker}
use Rattle.diag_run.proofs.Pieces.{ok_is_no_fault, one_line_more, so_far_done, so_far_halts, writings_behind, writings_passed}
use Rattle.diag_run.specs.declared.capture.CaptureFault.TheVariants.{Write}
use Rattle.diag_run.proofs.capture.Capture.take_lines.Goals as goal

pub loop-first-preserved : goal.loop-first-preserved
loop-first-preserved g c = record {
  so_far = one_line_more g.S.Sink g.S.Sink.took g.S.Sink.aim g.S.Sink.written g.S.Ending.ends _ _ _ _ _ c.args.piece.now c.loop-first.rest.now c.loop-first.invariant.so_far c.take_line.new.self c.in-Some.first.line.now
      c.in-Some.first.after.now c.in-Some.ensures.is c.in_default-take_line.ensures.ok c.in_default-take_line.ensures.lines;
  none = c.in_default-take_line.ensures.kept;
  sound = λ was. c.take_line.ensures.device.1 (ok_is_no_fault c.take_line.result _ Write c.in_default-take_line.is) (c.loop-first.invariant.sound was);
}

pub take_begun-requires-clause-room : goal.take_begun-requires-clause-room
take_begun-requires-clause-room g c =
    let size = length-append c.loop-first.invariant.so_far.gone c.loop-first.rest.now in
    let whole : length c.args.piece.now ≡ length (c.loop-first.invariant.so_far.gone ++ c.loop-first.rest.now) = rw (← c.loop-first.invariant.so_far.is) refl in
    omega (arith, c.loop-first.invariant.so_far.lines, c.requires.room, size, whole)

pub returns-clause-ok : goal.returns-clause-ok
returns-clause-ok g c = on_ok_weaker c.take_begun.result
    (so_far_done g.S.Sink g.S.Sink.took g.S.Sink.aim g.S.Sink.written g.S.Ending.ends _ _ _ _ _ c.args.piece.now c.loop-first.rest.now c.loop-first.invariant.so_far c.take_begun.new.self) c.take_begun.ensures.ok

pub returns-clause-err : goal.returns-clause-err
returns-clause-err g c =
    IfErr-weaker c.take_begun.result _ _
    (λ fault halts. so_far_halts g.S.Sink g.S.Sink.took g.S.Sink.aim g.S.Sink.written g.S.Ending.ends _ _ _ _ _ c.args.piece.now c.loop-first.rest.now c.loop-first.invariant.so_far fault c.loop-first.rest.now []
    (sym (append-nil c.loop-first.rest.now)) halts)
    c.take_begun.ensures.err

pub returns-in-Err-clause-err : goal.returns-in-Err-clause-err
returns-in-Err-clause-err g c =
    let whole = c.in-Some.first.line.now in
    let after = c.in-Some.first.after.now in
    so_far_halts g.S.Sink g.S.Sink.took g.S.Sink.aim g.S.Sink.written g.S.Ending.ends _ _ _ _ _ c.args.piece.now c.loop-first.rest.now c.loop-first.invariant.so_far c.in-Err.fault (whole ++ 10 ∷ []) after
    (c.in-Some.ensures.is ∙ sym (append_assoc whole (10 ∷ []) after)) c.in-Err.ensures.err

pub returns-clause-device : goal.returns-clause-device
returns-clause-device g c =
    writings_behind g.W.Target.failed g.W.Target.sound c.args.out.now c.loop-first.out c.take_begun.new.out c.take_begun.result c.loop-first.invariant.sound c.take_begun.ensures.device

pub returns-in-Err-clause-device : goal.returns-in-Err-clause-device
returns-in-Err-clause-device g c =
    writings_behind g.W.Target.failed g.W.Target.sound c.args.out.now c.loop-first.out c.take_line.new.out _ c.loop-first.invariant.sound
    (writings_passed g.W.Target.failed g.W.Target.sound c.loop-first.out c.take_line.new.out c.take_line.result c.in-Err.fault c.in-Err.is c.take_line.ensures.device)
