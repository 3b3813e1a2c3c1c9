use Rattle.std.proofs.Common.{rules}
use Rattle.diag_sides.proofs.sender.Sender.is_drained.Goals as goal

pub returns-in-None-clause-drained : goal.returns-in-None-clause-drained
returns-in-None-clause-drained c = search rules
