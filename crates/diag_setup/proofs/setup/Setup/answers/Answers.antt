use Rattle.diag_setup.proofs.FitLemmas.{answers_fit}
use Rattle.diag_setup.proofs.setup.Setup.answers.Goals as goal

pub returns-clause-fit : goal.returns-clause-fit
returns-clause-fit c = rw c.as_slice.ensures (answers_fit c.self.inside.raw c.self.invariant)
