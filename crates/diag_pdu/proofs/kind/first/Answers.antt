use Rattle.std.proofs.Common.{rules}
use Rattle.diag_pdu.proofs.kind.first.Goals as goal

pub returns-then-len-max : goal.returns-then-len-max
returns-then-len-max c = search rules
