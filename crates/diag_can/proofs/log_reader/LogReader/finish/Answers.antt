use Rattle.std.proofs.Common.{[], Err, ap, rules}
use Rattle.std.proofs.lemmas.Result.{err_from_is_err_and}
use Rattle.diag_can.specs.declared.fault.LogFault.{LogFault}
use Rattle.diag_can.proofs.Lines.{lines_of-last}
use Rattle.diag_can.proofs.Reading.{ended, ended_in, fault_next, more_next}
use Rattle.diag_can.proofs.log_reader.LogReader.finish.Goals as goal

pub returns-then-is_empty-clause-ok : goal.returns-then-is_empty-clause-ok
returns-then-is_empty-clause-ok c = λ seen h. ended (h.well (search rules)) c.args.begun.now (search rules)

pub returns-in_err-take_line-clause-err : goal.returns-in_err-take_line-clause-err
returns-in_err-take_line-clause-err c =
    let p = err_from_is_err_and c.from_residual.result c.from_residual.ensures.1 in
    rw (p.1, p.2) (λ known seen h.
    let at = h.well (search rules) in
    fault_next at _ c.args.begun.now [] _ (lines_of-last c.args.begun.now c.requires.line (search rules)) (c.in_err-take_line.ensures.fault known _ at.read))

pub returns-in_err-take_line-clause-memory : goal.returns-in_err-take_line-clause-memory
returns-in_err-take_line-clause-memory c =
    let p = err_from_is_err_and c.from_residual.result c.from_residual.ensures.1 in
    rw (p.1, p.2) (λ is seen h.
    let at = h.well (search rules) in
    more_next at _ c.args.begun.now [] (lines_of-last c.args.begun.now c.requires.line (search rules)) (c.in_err-take_line.ensures.memory (ap (λ (fault : LogFault). Err fault) (cc is)) _ at.read))

pub returns-clause-ok : goal.returns-clause-ok
returns-clause-ok c = λ seen h.
    let at = h.well (search rules) in
    ended_in at _ c.args.begun.now c.requires.line (search rules) (c.in_ok-take_line.ensures.took _ at.read)
