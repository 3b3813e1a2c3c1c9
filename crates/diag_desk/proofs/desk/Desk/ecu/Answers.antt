use Rattle.std.proofs.Common.{rules}
use Rattle.diag_desk.proofs.desk.Desk.ecu.Goals as goal

pub returns : goal.returns
returns c = search rules
