use Rattle.std.proofs.Common.{rules}
use Rattle.diag_bus.proofs.bus.Bus.quiet.Goals as goal

pub returns-clause-is : goal.returns-clause-is
returns-clause-is g c = search rules
