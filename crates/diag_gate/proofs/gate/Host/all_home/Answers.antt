use Rattle.std.proofs.Common.{rules}
use Rattle.diag_gate.proofs.gate.Host.all_home.Goals as goal

pub returns : goal.returns
returns c = search rules
