use Rattle.diag_exchange.proofs.Meanings.{meant, means}
use Rattle.diag_exchange.proofs.laws.agrees_law.Goals as goal

pub returns : goal.returns
returns c = λ o. (means o, meant o)
