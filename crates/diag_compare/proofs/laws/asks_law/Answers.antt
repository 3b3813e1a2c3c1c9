use Rattle.diag_compare.proofs.Questions.{asked_are}
use Rattle.diag_compare.proofs.laws.asks_law.Goals as goal

pub returns : goal.returns
returns c = λ expects setup lines t. asked_are expects setup t lines
