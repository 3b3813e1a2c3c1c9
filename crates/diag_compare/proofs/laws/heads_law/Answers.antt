use Rattle.diag_compare.proofs.Heads.{heads_are}
use Rattle.diag_compare.proofs.laws.heads_law.Goals as goal

pub returns : goal.returns
returns c = λ expects setup lines t. heads_are expects setup t lines
