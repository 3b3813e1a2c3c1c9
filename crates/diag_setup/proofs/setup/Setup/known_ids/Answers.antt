use Rattle.diag_setup.proofs.FitLemmas.{testers_fit}
use Rattle.diag_setup.proofs.setup.Setup.known_ids.Goals as goal

pub known_ids-requires-clause-fit : goal.known_ids-requires-clause-fit
known_ids-requires-clause-fit c = rw c.as_slice.ensures (testers_fit c.self.inside.raw c.self.invariant)
