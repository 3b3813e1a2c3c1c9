use Rattle.std.proofs.Common.{◌++◌, ◌∙◌, sym}
use Rattle.std.proofs.lemmas.Result.{err_from_is_err_and}
use Rattle.diag_text.specs.declared.fault.RunFault.TheVariants.{Read}
use Rattle.diag_run.proofs.Pieces.{err_same}
use Rattle.diag_run.proofs.Replays.{replay_stops, replayable, text_fault_own}
use Rattle.diag_run.proofs.answer.told_replay.Goals as goal

pub returns-in_err-text-in-Ok-clause-gives : goal.returns-in_err-text-in-Ok-clause-gives
returns-in_err-text-in-Ok-clause-gives c = λ seen h.
    let setup = c.args.setup.now in
    let p = err_from_is_err_and c.from_residual.result c.from_residual.ensures.1 in
    rw (p.1, p.2) (replayable setup (seen ++ c.args.begun.now) c.in-Ok.replayed.entries c.in-Ok.replayed.ecu (c.in-Ok.ensures.ok setup seen h))

pub returns-in_err-one_part-in-Ok-clause-gives : goal.returns-in_err-one_part-in-Ok-clause-gives
returns-in_err-one_part-in-Ok-clause-gives c = λ seen h.
    let setup = c.args.setup.now in
    let p = err_from_is_err_and c.from_residual-in_err-one_part-in-Ok.result c.from_residual-in_err-one_part-in-Ok.ensures.1 in
    rw (p.1, p.2) (replayable setup (seen ++ c.args.begun.now) c.in-Ok.replayed.entries c.in-Ok.replayed.ecu (c.in-Ok.ensures.ok setup seen h))

pub returns-in-Err-clause-gives : goal.returns-in-Err-clause-gives
returns-in-Err-clause-gives c = λ seen h.
    rw c.from.ensures (replay_stops c.args.setup.now (seen ++ c.args.begun.now) c.in-Err.fault
    (λ n is. c.in-Err.ensures.line n is c.args.setup.now seen h) (λ n is. c.in-Err.ensures.differs n is c.args.setup.now seen h))

pub returns-in-Err-clause-device : goal.returns-in-Err-clause-device
returns-in-Err-clause-device c = λ n is. text_fault_own c.in-Err.fault n (sym c.from.ensures ∙ err_same c.from.result (Read n) is)
