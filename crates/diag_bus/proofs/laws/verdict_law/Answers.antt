use Rattle.diag_bus.proofs.Meaning.{meaning}
use Rattle.diag_bus.proofs.laws.verdict_law.Goals as goal

pub returns : goal.returns
returns c = meaning
