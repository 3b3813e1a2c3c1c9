use Rattle.diag_text.proofs.text.+fn-lines_halved-join+arg2+fn-lines_halved-join+arg3+lines_halved.Given as goal

abbrev pub decreases-lines_halved : goal.decreases-lines_halved
decreases-lines_halved g l = l.most

abbrev pub decreases-join+arg2 : goal.decreases-join+arg2
decreases-join+arg2 g l = l.half

abbrev pub decreases-join+arg3 : goal.decreases-join+arg3
decreases-join+arg3 g l = l.half
