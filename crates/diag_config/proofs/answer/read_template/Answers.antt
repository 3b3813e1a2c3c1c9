use Rattle.std.proofs.Common.{◌∙◌, refl}
use Rattle.std.proofs.lemmas.Result.{err_from_is_err_and}
use Rattle.diag_config.specs.Answer.{template_with}
use Rattle.diag_config.proofs.Binds.{read_on, read_fails}
use Rattle.diag_config.proofs.answer.read_template.Goals as goal

pub returns-in_err-items : goal.returns-in_err-items
returns-in_err-items c =
    let p = err_from_is_err_and c.from_residual.result c.from_residual.ensures.1 in
    rw (p.1, p.2) (read_fails c.args.key.now (λ read. template_with read.0 read.1) _ c.in_err-items.field-0.0 c.in_err-items.ensures)

pub returns-in-None : goal.returns-in-None
returns-in-None c =
    read_on c.args.key.now (λ read. template_with read.0 read.1) _ _ c.in_ok-items.ensures ∙ rw c.in-None.is refl

pub returns-in-Some : goal.returns-in-Some
returns-in-Some c =
    read_on c.args.key.now (λ read. template_with read.0 read.1) _ _ c.in_ok-items.ensures ∙ rw c.in-Some.is refl
