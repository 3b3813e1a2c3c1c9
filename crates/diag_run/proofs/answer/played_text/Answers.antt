use Rattle.std.proofs.lemmas.Result.{err_from_is_err_and}
use Rattle.diag_run.proofs.Devices.{reads_passed, reads_then}
use Rattle.diag_run.proofs.answer.played_text.Goals as goal

pub returns-in_err-takers-clause-tells : goal.returns-in_err-takers-clause-tells
returns-in_err-takers-clause-tells g c =
    let p = err_from_is_err_and c.from_residual.result c.from_residual.ensures.1 in
    reads_passed g.R.Source.failed g.R.Source.sound _ _ c.read_logs.result c.from_residual.result _ _ c.in_err-takers.was p.1 p.2 c.read_logs.ensures.tells

pub returns-clause-tells : goal.returns-clause-tells
returns-clause-tells g c = reads_then g.R.Source.failed g.R.Source.sound _ _ c.told_play.result c.told_play.ensures.device c.in_ok-takers.ensures.tells
