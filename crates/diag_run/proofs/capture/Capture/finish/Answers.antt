use Rattle.std.proofs.Common.{◌≡◌, ◌<◌, ◌++◌, ℕ, Bool, false, Vec, Global, vec_len, length, arith}
use Rattle.std.specs.Prelude.{◌==◌}
use Rattle.std.proofs.KnownBytes.{Appends-trans}
use Rattle.std.proofs.lemmas.Bool.Decides.{nat_tests}
use Rattle.std.proofs.lemmas.Result.{IfErr-weaker, IfOk-weaker, err_from_is_err_and}
use Rattle.diag_run.specs.declared.capture.CaptureFault.TheVariants.{Write}
use Rattle.diag_run.proofs.Pieces.{closes_begun, closes_ended, cut_begun, halts_begun, halts_ended, none_kept, ok_is_no_fault, writings_behind, writings_passed}
use Rattle.diag_run.proofs.capture.Capture.finish.Goals as goal

some_kept : {empty : Bool} (kept : Vec ℕ Global) → empty ≡ (vec_len kept == 0) → empty ≡ false → 0 < length kept.items
some_kept kept is tested = grind (arith, nat_tests)

pub returns-then-is_empty-clause-ok : goal.returns-then-is_empty-clause-ok
returns-then-is_empty-clause-ok g c =
    let none = none_kept c.args.self.now.kept c.is_empty.ensures c.if-is_empty.true in
    IfOk-weaker c.close.result _ _ (λ status s. (s.0, s.1, closes_ended g.S.Sink g.S.Sink.took g.S.Sink.aim g.S.Sink.written g.S.Ending.ends c.args.self.now none c.close.new.self status s.0 s.2)) c.close.ensures.ok

pub returns-then-is_empty-clause-err : goal.returns-then-is_empty-clause-err
returns-then-is_empty-clause-err g c =
    let none = none_kept c.args.self.now.kept c.is_empty.ensures c.if-is_empty.true in
    IfErr-weaker c.close.result _ _ (λ fault h. (h.0, h.1, halts_ended g.S.Sink g.S.Sink.took g.S.Sink.aim g.S.Sink.written g.S.Ending.ends c.args.self.now none fault h.0 h.2)) c.close.ensures.err

pub returns-in_err-take_line-clause-err : goal.returns-in_err-take_line-clause-err
returns-in_err-take_line-clause-err g c =
    let p = err_from_is_err_and c.from_residual.result c.from_residual.ensures.1 in
    let begun = some_kept c.args.self.now.kept c.is_empty.ensures c.if-is_empty.false in
    let halts = c.in_err-take_line.ensures.err in
    rw (p.1, p.2) (halts.0, halts.1, halts_begun g.S.Sink g.S.Sink.took g.S.Sink.aim g.S.Sink.written g.S.Ending.ends c.args.self.now begun c.in_err-take_line.field-0.0 halts.0 halts.2)

pub returns-clause-ok : goal.returns-clause-ok
returns-clause-ok g c =
    let begun = some_kept c.args.self.now.kept c.is_empty.ensures c.if-is_empty.false in
    let on = c.in_ok-take_line.ensures.ok in
    let mid = c.take_line.new.self in
    IfOk-weaker c.close-2.result _ _
    (λ status s. (
      on.0 ++ s.0,
      Appends-trans _ _ _ on.0 s.0 on.1 s.1,
      closes_begun g.S.Sink g.S.Sink.took g.S.Sink.aim g.S.Sink.written g.S.Ending.ends c.args.self.now begun mid on.0 on.2 c.close-2.new.self status s.0
          (closes_ended g.S.Sink g.S.Sink.took g.S.Sink.aim g.S.Sink.written g.S.Ending.ends mid c.in_ok-take_line.ensures.kept c.close-2.new.self status s.0 s.2),
    ))
    c.close-2.ensures.ok

pub returns-clause-err : goal.returns-clause-err
returns-clause-err g c =
    let begun = some_kept c.args.self.now.kept c.is_empty.ensures c.if-is_empty.false in
    let on = c.in_ok-take_line.ensures.ok in
    let mid = c.take_line.new.self in
    IfErr-weaker c.close-2.result _ _
    (λ fault h. (
      on.0 ++ h.0,
      Appends-trans _ _ _ on.0 h.0 on.1 h.1,
      cut_begun g.S.Sink g.S.Sink.took g.S.Sink.aim g.S.Sink.written g.S.Ending.ends c.args.self.now begun mid on.0 on.2 fault h.0 (halts_ended g.S.Sink g.S.Sink.took g.S.Sink.aim g.S.Sink.written g.S.Ending.ends mid c.in_ok-take_line.ensures.kept fault h.0 h.2),
    ))
    c.close-2.ensures.err

pub returns-in_err-take_line-clause-device : goal.returns-in_err-take_line-clause-device
returns-in_err-take_line-clause-device g c =
    let p = err_from_is_err_and c.from_residual.result c.from_residual.ensures.1 in
    rw (p.1, p.2) (writings_passed g.W.Target.failed g.W.Target.sound c.args.out.now c.take_line.new.out c.take_line.result _ c.in_err-take_line.was c.take_line.ensures.device)

pub returns-clause-device : goal.returns-clause-device
returns-clause-device g c =
    writings_behind g.W.Target.failed g.W.Target.sound c.args.out.now c.take_line.new.out c.close-2.new.out c.close-2.result
    (c.take_line.ensures.device.1 (ok_is_no_fault c.take_line.result _ Write c.in_ok-take_line.was)) c.close-2.ensures.device
