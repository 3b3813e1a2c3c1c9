use Rattle.std.proofs.Common.{rules, sym, ◌∙◌}
use Rattle.std.proofs.lemmas.Result.{err_from_is_err_and}
use Rattle.diag_port.proofs.Faults.{full_is, same_fault}
use Rattle.diag_world.proofs.Standing.{desk_took}
use Rattle.diag_world.proofs.world.take.Goals as goal

pub returns-clause-ok : goal.returns-clause-ok
returns-clause-ok c = desk_took c.args.desk.now c.take.new.taker c.args.who c.args.event.now _ _ c.in_ok-take.ensures.took c.journal-journal.ensures.legal

pub returns-in_err-take-clause-first : goal.returns-in_err-take-clause-first
returns-in_err-take-clause-first c = search rules

pub returns-in_err-take-clause-full : goal.returns-in_err-take-clause-full
returns-in_err-take-clause-full c = λ is.
    let fault = err_from_is_err_and c.from_residual.result c.from_residual.ensures.1 in
    full_is _ (sym fault.2 ∙ same_fault _ _ (sym fault.1 ∙ is)) c.in_err-take.ensures.full
