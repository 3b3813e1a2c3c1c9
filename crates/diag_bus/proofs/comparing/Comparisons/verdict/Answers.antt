use Rattle.std.proofs.Common.{sym, ◌∙◌}
use Rattle.diag_bus.specs.declared.verdict.Difference.{Difference}
use Rattle.diag_bus.specs.declared.verdict.Verdict.TheVariants.{Differs}
use Rattle.diag_bus.proofs.Verdicts.{differs_apart, differs_first, on_err_of}
use Rattle.diag_bus.proofs.comparing.Comparisons.verdict.Goals as goal

pub returns-in_err-copy-in-Some-clause-err : goal.returns-in_err-copy-in-Some-clause-err
returns-in_err-copy-in-Some-clause-err c =
    let who = c.in-Some.who in
    let d : Difference = c.in-Some.difference in
    on_err_of c.from_residual.result (
      Differs who d,
      differs_apart who d,
      differs_first c.args.setup.now c.args.self.now who d (λ lines h. sym c.in-Some.is ∙ c.first_difference.ensures lines h),
    )
