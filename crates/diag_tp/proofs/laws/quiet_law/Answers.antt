use Rattle.diag_tp.proofs.Silence.{quiet_law}
use Rattle.diag_tp.proofs.laws.quiet_law.Goals as goal

pub returns : goal.returns
returns c = quiet_law
