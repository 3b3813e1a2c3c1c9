use Rattle.diag_exchange.proofs.Once.{told_once}
use Rattle.diag_exchange.proofs.laws.once_law.Goals as goal

pub returns : goal.returns
returns c = told_once
