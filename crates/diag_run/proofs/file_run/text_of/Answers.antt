use Rattle.std.proofs.lemmas.Result.{err_from_is_err_and}
use Rattle.diag_run.specs.declared.file_run.Job.TheVariants.{Play}
use Rattle.diag_run.proofs.Devices.{reads_passed, reads_then}
use Rattle.diag_run.proofs.Known.{texts_give}
use Rattle.diag_run.proofs.file_run.text_of.Goals as goal

pub returns-in_ok-texts-in-Play-clause-gives : goal.returns-in_ok-texts-in-Play-clause-gives
returns-in_ok-texts-in-Play-clause-gives g c =
    let woven = c.woven_text.ensures in
    rw c.in-Play.is (texts_give g.R.Source.remaining (Play c.in-Play.only_journal c.in-Play.timing) c.args.setup.now _ _ c.woven_text.result woven.device _
    c.in_ok-texts-in-Play.ensures.read woven.gives)

pub returns-in_ok-texts-in-Play-clause-tells : goal.returns-in_ok-texts-in-Play-clause-tells
returns-in_ok-texts-in-Play-clause-tells g c =
    reads_then g.R.Source.failed g.R.Source.sound _ _ c.woven_text.result c.woven_text.ensures.device c.in_ok-texts-in-Play.ensures.tells

pub returns-in_err-texts-in-Play-clause-tells : goal.returns-in_err-texts-in-Play-clause-tells
returns-in_err-texts-in-Play-clause-tells g c =
    let p = err_from_is_err_and c.from_residual.result c.from_residual.ensures.1 in
    reads_passed g.R.Source.failed g.R.Source.sound _ _ c.read_texts.result c.from_residual.result _ _ c.in_err-texts-in-Play.was p.1 p.2 c.read_texts.ensures.tells
