use Rattle.diag_port.proofs.AtOnce.{at_once}
use Rattle.diag_port.proofs.laws.at_once_law.Goals as goal

pub returns : goal.returns
returns c = at_once
