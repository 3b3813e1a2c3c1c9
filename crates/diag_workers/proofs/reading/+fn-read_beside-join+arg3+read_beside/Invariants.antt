use Rattle.std.proofs.Common.{length}
use Rattle.diag_workers.proofs.reading.+fn-read_beside-join+arg3+read_beside.Given as goal

abbrev pub decreases-read_beside : goal.decreases-read_beside
decreases-read_beside g l = length l.texts.now

abbrev pub decreases-join+arg3 : goal.decreases-join+arg3
decreases-join+arg3 g l = length l.rest.now
