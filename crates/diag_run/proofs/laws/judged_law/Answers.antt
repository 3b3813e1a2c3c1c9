use Rattle.diag_run.proofs.Judging.{all_judged}
use Rattle.diag_run.proofs.laws.judged_law.Goals as goal

pub returns : goal.returns
returns c = all_judged
