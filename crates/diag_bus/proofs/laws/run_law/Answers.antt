use Rattle.diag_bus.proofs.Runs.{run}
use Rattle.diag_bus.proofs.laws.run_law.Goals as goal

pub returns : goal.returns
returns c = run
