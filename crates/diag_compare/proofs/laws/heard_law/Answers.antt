use Rattle.diag_compare.proofs.Messages.{heard_are}
use Rattle.diag_compare.proofs.laws.heard_law.Goals as goal

pub returns : goal.returns
returns c = λ expects setup lines t. heard_are expects setup t lines
