use Rattle.diag_compare.proofs.Runs.{agrees_answers, answers_agree}
use Rattle.diag_compare.proofs.laws.answers_law.Goals as goal

pub returns : goal.returns
returns c = λ setup lines t. (agrees_answers setup lines t, answers_agree setup lines t)
