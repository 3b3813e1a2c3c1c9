use Rattle.uds_unit.proofs.Captured.{as_bus}
use Rattle.uds_unit.proofs.laws.as_bus_law.Goals as goal

pub returns : goal.returns
returns c = as_bus
