use Rattle.std.proofs.Common.{◌<◌, length, ap, sym, subst, List, get_or, ◌∙◌, arith}
use Rattle.diag_setup.specs.declared.raw.RawSetup.{RawSetup}
use Rattle.diag_setup.specs.declared.raw.RawTester.{RawTester}
use Rattle.diag_setup.specs.Fits.{TesterFits}
use Rattle.diag_setup.proofs.FitLemmas.{testers_fit}
use Rattle.diag_setup.proofs.setup.Setup.tester.Goals as goal

pub returns-clause-fits : goal.returns-clause-fits
returns-clause-fits c =
    let tester = c.index-as_slice-index.result in
    let inside : c.index.result < length c.self.inside.raw.testers =
    omega (arith, c.index.ensures.same, c.index.ensures.from_one, c.requires, ap (λ (s : RawSetup). length s.testers) c.self.view_is) in
    subst TesterFits
    (sym (c.index-as_slice-index.is ∙ ap (λ (ts : List RawTester). get_or ts c.index.result tester) c.as_slice.ensures))
    (testers_fit c.self.inside.raw c.self.invariant c.index.result tester inside)
