use Rattle.diag_exchange.proofs.Few.{few}
use Rattle.diag_exchange.proofs.laws.few_law.Goals as goal

pub returns : goal.returns
returns c = λ own hs service s. few own.live.items own.coming hs s service
