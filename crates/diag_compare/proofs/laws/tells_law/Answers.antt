use Rattle.diag_compare.proofs.Telling.{told_are}
use Rattle.diag_compare.proofs.laws.tells_law.Goals as goal

pub returns : goal.returns
returns c = λ expects setup lines t. told_are expects setup t lines
