use Rattle.std.proofs.Common.{rules}
use Rattle.diag_workers.proofs.crewing.+crew_of+fn-crew_of-join+arg3.Goals as goal

pub returns : goal.returns
returns g t c = search rules
