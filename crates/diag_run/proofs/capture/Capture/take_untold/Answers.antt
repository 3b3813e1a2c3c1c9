use Rattle.std.proofs.Common.{◌≡◌, ◌++◌, List, ℕ, ap, refl, sym}
use Rattle.std.proofs.lemmas.Result.{err_from_is_err_and}
use Rattle.diag_run.proofs.Pieces.{give_halts, line_goes_on, sees_refused}
use Rattle.diag_run.proofs.capture.Capture.take_untold.Goals as goal

pub returns-in_err-take_line-clause-err : goal.returns-in_err-take_line-clause-err
returns-in_err-take_line-clause-err g c =
    let line = c.args.bytes.now in
    let p = err_from_is_err_and c.from_residual.result c.from_residual.ensures.1 in
    let fault = c.in_err-take_line.field-0.0 in
    let whole : line ≡ c.args.self.now.kept.items ++ line = ap (λ (k : List ℕ). k ++ line) (sym c.requires.none) in
    rw (p.1, p.2)
    (give_halts g.S.Sink g.S.Sink.took g.S.Sink.aim g.S.Sink.written g.S.Ending.ends c.args.self.now line line c.take_line.new.text.items fault c.requires.line whole
    c.in_err-take_line.ensures.err (c.take_line.ensures.fault fault c.in_err-take_line.was))

pub returns-clause-ok : goal.returns-clause-ok
returns-clause-ok g c =
    let line = c.args.bytes.now in
    let whole : line ≡ c.args.self.now.kept.items ++ line = ap (λ (k : List ℕ). k ++ line) (sym c.requires.none) in
    let gave = c.in_ok-take_line.ensures.took in
    line_goes_on g.S.Sink g.S.Sink.took g.S.Sink.aim g.S.Sink.written g.S.Ending.ends g.met.S.Ending.ends_as_asked c.args.self.now _ c.take_line.ensures.setup c.take_line.ensures.aim line line gave.more c.requires.line whole
    gave.holds c.requires.none refl gave.grown

pub returns-in_err-take_line-clause-seen : goal.returns-in_err-take_line-clause-seen
returns-in_err-take_line-clause-seen g c =
    let p = err_from_is_err_and c.from_residual.result c.from_residual.ensures.1 in
    rw (p.1, p.2) (sees_refused g.S.Sink g.S.Sink.took g.S.Sink.aim g.S.Sink.written g.S.Ending.ends c.args.self.now c.args.bytes.now c.take_line.result _ c.in_err-take_line.was c.requires.none c.take_line.ensures.first)

pub returns-clause-seen : goal.returns-clause-seen
returns-clause-seen g c =
    sees_refused g.S.Sink g.S.Sink.took g.S.Sink.aim g.S.Sink.written g.S.Ending.ends c.args.self.now c.args.bytes.now c.take_line.result _ c.in_ok-take_line.was c.requires.none c.take_line.ensures.first
