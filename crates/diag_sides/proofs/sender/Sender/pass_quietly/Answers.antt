use Rattle.std.proofs.Common.{rules}
use Rattle.diag_sides.proofs.sender.Sender.pass_quietly.Goals as goal

pub returns-clause-current : goal.returns-clause-current
returns-clause-current c = search rules
