use Rattle.std.proofs.Common.{rules}
use Rattle.diag_gate.proofs.gate.Guard.put_back.Goals as goal

pub returns : goal.returns
returns c = search rules
