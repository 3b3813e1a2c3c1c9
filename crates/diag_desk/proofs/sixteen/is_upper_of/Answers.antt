use Rattle.std.proofs.Common.{◌∙◌, sym, rules, arith}
use Rattle.std.proofs.lemmas.Bool.{eqb-true}
use Rattle.diag_desk.proofs.Written.{differs, differs-same, whole}
use Rattle.diag_desk.proofs.sixteen.is_upper_of.Goals as goal

pub returns : goal.returns
returns c = λ t.
    sym c.digits_of_eight.ensures
    ∙ whole differs differs-same c.digits_of_eight.result c.args.text.now 16 c.first_set.result (search rules) c.told-text (omega arith) c.first_set.ensures
    (eqb-true _ _ t)
