use Rattle.std.proofs.Common.{◌∙◌, ap, map, rules, sym, take_at}
use Rattle.std.proofs.lemmas.Result.{err_from_is_err_and}
use Rattle.diag_run.proofs.Devices.{reads_passed, reads_refused}
use Rattle.diag_run.proofs.Known.{FilesRead-map, kept_texts, refused_before}
use Rattle.diag_run.proofs.answer.read_texts.Goals as goal

pub returns-in_err-push-clause-ends : goal.returns-in_err-push-clause-ends
returns-in_err-push-clause-ends g c =
    let p = err_from_is_err_and c.from_residual.result c.from_residual.ensures.1 in
    rw (p.1, p.2) (refused_before g.R.Source.remaining 67108864 c.args.files.now (search rules))

pub returns-clause-read : goal.returns-clause-read
returns-clause-read g c =
    FilesRead-map g.R.Source.remaining 67108864 _ _ _ _
    (λ read taken. kept_texts _ read taken
    ∙ ap (map (λ text. text.items)) (sym (take_at _ _ _ (c.in_ok-read_each.ensures.as_many ∙ c.as_mut_slice.ensures.len)))) c.in_ok-read_each.ensures.read

pub returns-in_err-push-clause-tells : goal.returns-in_err-push-clause-tells
returns-in_err-push-clause-tells g c =
    let p = err_from_is_err_and c.from_residual.result c.from_residual.ensures.1 in
    reads_refused g.R.Source.failed g.R.Source.sound c.args.files.now c.from_residual.result _ p.1 p.2

pub returns-in_err-read_each-clause-tells : goal.returns-in_err-read_each-clause-tells
returns-in_err-read_each-clause-tells g c =
    let p = err_from_is_err_and c.from_residual-in_err-read_each.result c.from_residual-in_err-read_each.ensures.1 in
    reads_passed g.R.Source.failed g.R.Source.sound _ _ c.read_each.result c.from_residual-in_err-read_each.result _ _ c.in_err-read_each.was p.1 p.2 c.read_each.ensures.tells
