use Rattle.std.proofs.Common.{length}
use Rattle.diag_text.proofs.text.+fn-lines_beside-join+arg3+lines_beside.Given as goal

abbrev pub decreases-lines_beside : goal.decreases-lines_beside
decreases-lines_beside g l = length l.sent.now

abbrev pub decreases-join+arg3 : goal.decreases-join+arg3
decreases-join+arg3 g l = length l.rest.now
