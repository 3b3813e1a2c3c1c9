use Rattle.std.proofs.Common.{◌∷◌, [], ◌++◌, append_assoc, sym, ◌∙◌}
use Rattle.std.proofs.lemmas.List.{append-nil}
use Rattle.std.proofs.lemmas.Result.{IfErr-weaker, err_from_is_err_and, on_ok_weaker}
use Rattle.diag_run.proofs.Pieces.{begun_so_far, none_kept, one_line_more, so_far_done, so_far_halts}
use Rattle.diag_run.proofs.capture.Capture.take_piece.Goals as goal

pub take_lines-requires-clause-none : goal.take_lines-requires-clause-none
take_lines-requires-clause-none g c = none_kept c.args.self.now.kept c.is_empty.ensures c.if-is_empty.true

pub returns-in_err-take_line-in-Some-clause-err : goal.returns-in_err-take_line-in-Some-clause-err
returns-in_err-take_line-in-Some-clause-err g c =
    let exit = err_from_is_err_and c.from_residual.result c.from_residual.ensures.1 in
    let line = c.in-Some.first.line.now in
    let after = c.in-Some.first.after.now in
    let begun = begun_so_far g.S.Sink g.S.Sink.took g.S.Sink.aim g.S.Sink.written g.S.Ending.ends c.args.self.now (g.W.Target.contents c.args.out.now) c.args.piece.now in
    rw (exit.1, exit.2)
    (so_far_halts g.S.Sink g.S.Sink.took g.S.Sink.aim g.S.Sink.written g.S.Ending.ends _ _ _ _ _ c.args.piece.now c.args.piece.now begun c.in_err-take_line-in-Some.field-0.0 (line ++ 10 ∷ []) after
    (c.in-Some.ensures.is ∙ sym (append_assoc line (10 ∷ []) after)) c.in_err-take_line-in-Some.ensures.err)

pub returns-in_ok-take_line-in-Some-clause-ok : goal.returns-in_ok-take_line-in-Some-clause-ok
returns-in_ok-take_line-in-Some-clause-ok g c =
    let begun = begun_so_far g.S.Sink g.S.Sink.took g.S.Sink.aim g.S.Sink.written g.S.Ending.ends c.args.self.now (g.W.Target.contents c.args.out.now) c.args.piece.now in
    let so_far = one_line_more g.S.Sink g.S.Sink.took g.S.Sink.aim g.S.Sink.written g.S.Ending.ends _ _ _ _ _ c.args.piece.now c.args.piece.now begun c.take_line.new.self c.in-Some.first.line.now
    c.in-Some.first.after.now c.in-Some.ensures.is c.in_ok-take_line-in-Some.ensures.ok c.in_ok-take_line-in-Some.ensures.lines in
    on_ok_weaker c.take_lines-in-Some.result
    (so_far_done g.S.Sink g.S.Sink.took g.S.Sink.aim g.S.Sink.written g.S.Ending.ends _ _ _ _ _ c.args.piece.now c.in-Some.first.after.now so_far c.take_lines-in-Some.new.self) c.take_lines-in-Some.ensures.ok

pub returns-in_ok-take_line-in-Some-clause-err : goal.returns-in_ok-take_line-in-Some-clause-err
returns-in_ok-take_line-in-Some-clause-err g c =
    let after = c.in-Some.first.after.now in
    let begun = begun_so_far g.S.Sink g.S.Sink.took g.S.Sink.aim g.S.Sink.written g.S.Ending.ends c.args.self.now (g.W.Target.contents c.args.out.now) c.args.piece.now in
    let so_far = one_line_more g.S.Sink g.S.Sink.took g.S.Sink.aim g.S.Sink.written g.S.Ending.ends _ _ _ _ _ c.args.piece.now c.args.piece.now begun c.take_line.new.self c.in-Some.first.line.now
    after c.in-Some.ensures.is c.in_ok-take_line-in-Some.ensures.ok c.in_ok-take_line-in-Some.ensures.lines in
    IfErr-weaker c.take_lines-in-Some.result _ _
    (λ fault halts. so_far_halts g.S.Sink g.S.Sink.took g.S.Sink.aim g.S.Sink.written g.S.Ending.ends _ _ _ _ _ c.args.piece.now after so_far fault after []
    (sym (append-nil after)) halts)
    c.take_lines-in-Some.ensures.err
