use Rattle.std.proofs.Common.{◌≡◌, ◌++◌, List, ℕ, sym, ap, refl}
use Rattle.diag_run.proofs.Pieces.{give_halts, line_goes_on, sees_refused}
use Rattle.diag_run.proofs.capture.Capture.take_told.Goals as goal

pub returns-in-Err-clause-err : goal.returns-in-Err-clause-err
returns-in-Err-clause-err g c =
    let line = c.args.line.now in
    let whole : line ≡ c.args.self.now.kept.items ++ line = ap (λ (k : List ℕ). k ++ line) (sym c.requires.none) in
    give_halts g.S.Sink g.S.Sink.took g.S.Sink.aim g.S.Sink.written g.S.Ending.ends c.args.self.now line line c.give.new.text.items c.in-Err.fault c.requires.line whole c.in-Err.ensures.err
    (c.give.ensures.fault c.in-Err.fault c.in-Err.is)

pub returns-clause-ok : goal.returns-clause-ok
returns-clause-ok g c =
    let line = c.args.line.now in
    let whole : line ≡ c.args.self.now.kept.items ++ line = ap (λ (k : List ℕ). k ++ line) (sym c.requires.none) in
    let gave = c.in_default.ensures.takes in
    line_goes_on g.S.Sink g.S.Sink.took g.S.Sink.aim g.S.Sink.written g.S.Ending.ends g.met.S.Ending.ends_as_asked c.args.self.now _ c.give.ensures.setup c.give.ensures.asked line line gave.more c.requires.line whole gave.holds
    c.requires.none refl gave.grown

pub returns-in-Err-clause-seen : goal.returns-in-Err-clause-seen
returns-in-Err-clause-seen g c =
    sees_refused g.S.Sink g.S.Sink.took g.S.Sink.aim g.S.Sink.written g.S.Ending.ends c.args.self.now c.args.line.now c.give.result _ c.in-Err.is c.requires.none c.give.ensures.first

pub returns-clause-seen : goal.returns-clause-seen
returns-clause-seen g c =
    sees_refused g.S.Sink g.S.Sink.took g.S.Sink.aim g.S.Sink.written g.S.Ending.ends c.args.self.now c.args.line.now c.give.result _ c.in_default.is c.requires.none c.give.ensures.first
