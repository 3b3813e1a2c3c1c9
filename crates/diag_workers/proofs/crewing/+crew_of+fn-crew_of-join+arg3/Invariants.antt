use Rattle.std.proofs.Common.{length}
use Rattle.diag_workers.proofs.crewing.+crew_of+fn-crew_of-join+arg3.Given as goal

abbrev pub decreases-crew_of : goal.decreases-crew_of
decreases-crew_of g l = length l.logs.now

abbrev pub decreases-join+arg3 : goal.decreases-join+arg3
decreases-join+arg3 g l = length l.logs.now
