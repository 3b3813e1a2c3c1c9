use Rattle.diag_compare.proofs.Statuses.{status_means}
use Rattle.diag_compare.proofs.laws.status_law.Goals as goal

pub returns : goal.returns
returns c = λ expects setup lines. status_means expects setup lines
