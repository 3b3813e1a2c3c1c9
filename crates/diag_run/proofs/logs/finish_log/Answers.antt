use Rattle.std.proofs.Common.{rules}
use Rattle.diag_run.proofs.logs.finish_log.Goals as goal

pub returns-in-Ok : goal.returns-in-Ok
returns-in-Ok c = search rules

pub returns : goal.returns
returns c = search rules
