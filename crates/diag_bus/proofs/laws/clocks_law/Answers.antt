use Rattle.diag_bus.proofs.Clocks.{clocks}
use Rattle.diag_bus.proofs.laws.clocks_law.Goals as goal

pub returns : goal.returns
returns c = clocks
