use Rattle.std.proofs.Common.{◌≡◌, ◌∷◌, [], ◌++◌, ◌∙◌, refl, sym}
use Rattle.std.proofs.lemmas.Result.{err_from_is_err_and}
use Rattle.diag_run.proofs.Pieces.{give_halts, keep_halts, line_goes_on, sees_kept, sees_long}
use Rattle.diag_run.proofs.capture.Capture.take_kept.Goals as goal

pub returns-in_err-keep-clause-err : goal.returns-in_err-keep-clause-err
returns-in_err-keep-clause-err g c =
    let p = err_from_is_err_and c.from_residual.result c.from_residual.ensures.1 in
    rw (p.1, p.2)
    (keep_halts g.S.Sink g.S.Sink.took g.S.Sink.aim g.S.Sink.written g.S.Ending.ends c.args.self.now c.args.bytes.now (10 ∷ []) c.in_err-keep.field-0.0 c.requires.line c.in_err-keep.ensures.some c.in_err-keep.ensures.err)

pub returns-in_err-take_line-clause-err : goal.returns-in_err-take_line-clause-err
returns-in_err-take_line-clause-err g c =
    let p = err_from_is_err_and c.from_residual-in_err-take_line.result c.from_residual-in_err-take_line.ensures.1 in
    let fault = c.in_err-take_line.field-0.0 in
    let whole : c.as_slice.result.now ≡ c.args.self.now.kept.items ++ c.args.bytes.now = c.as_slice.ensures.value ∙ c.in_ok-keep.ensures.ok in
    rw (p.1, p.2)
    (give_halts g.S.Sink g.S.Sink.took g.S.Sink.aim g.S.Sink.written g.S.Ending.ends c.args.self.now c.args.bytes.now c.as_slice.result.now c.take_line.new.text.items fault c.requires.line whole
    c.in_err-take_line.ensures.err (c.take_line.ensures.fault fault c.in_err-take_line.was))

pub returns-clause-ok : goal.returns-clause-ok
returns-clause-ok g c =
    let whole : c.as_slice.result.now ≡ c.args.self.now.kept.items ++ c.args.bytes.now = c.as_slice.ensures.value ∙ c.in_ok-keep.ensures.ok in
    let gave = c.in_ok-take_line.ensures.took in
    line_goes_on g.S.Sink g.S.Sink.took g.S.Sink.aim g.S.Sink.written g.S.Ending.ends g.met.S.Ending.ends_as_asked c.args.self.now _ c.take_line.ensures.setup c.take_line.ensures.aim c.args.bytes.now c.as_slice.result.now gave.more c.requires.line whole
    gave.holds c.clear.ensures.items refl gave.grown

pub returns-in_err-keep-clause-seen : goal.returns-in_err-keep-clause-seen
returns-in_err-keep-clause-seen g c =
    let p = err_from_is_err_and c.from_residual.result c.from_residual.ensures.1 in
    rw (p.1, p.2) (sees_long g.S.Sink g.S.Sink.took g.S.Sink.aim g.S.Sink.written g.S.Ending.ends c.args.self.now c.args.bytes.now _ c.requires.begun (λ long. sym c.in_err-keep.was ∙ c.keep.ensures.long long))

pub returns-in_err-take_line-clause-seen : goal.returns-in_err-take_line-clause-seen
returns-in_err-take_line-clause-seen g c =
    sees_kept g.S.Sink g.S.Sink.took g.S.Sink.aim g.S.Sink.written g.S.Ending.ends c.args.self.now c.args.bytes.now c.keep.result _ _ c.requires.begun c.keep.ensures.long c.in_ok-keep.was

pub returns-clause-seen : goal.returns-clause-seen
returns-clause-seen g c =
    sees_kept g.S.Sink g.S.Sink.took g.S.Sink.aim g.S.Sink.written g.S.Ending.ends c.args.self.now c.args.bytes.now c.keep.result _ _ c.requires.begun c.keep.ensures.long c.in_ok-keep.was
