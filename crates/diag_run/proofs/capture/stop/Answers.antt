use Rattle.std.proofs.Common.{rules}
use Rattle.diag_run.proofs.capture.stop.Goals as goal

pub returns-in-Ok : goal.returns-in-Ok
returns-in-Ok g c = search rules
