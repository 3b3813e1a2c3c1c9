use Rattle.diag_setup.proofs.FitLemmas.{ranged_functional, ranged_testers}
use Rattle.diag_setup.proofs.raw.RawSetup.has_duplicates.Goals as goal

pub has_repeated_id-requires-clause-fit : goal.has_repeated_id-requires-clause-fit
has_repeated_id-requires-clause-fit c = rw c.as_slice-else-has_repeated_name.ensures (ranged_testers c.args.self.now c.requires.ranged)

pub has_repeated_id-requires-clause-shared : goal.has_repeated_id-requires-clause-shared
has_repeated_id-requires-clause-shared c = ranged_functional c.args.self.now c.requires.ranged
