use Rattle.std.proofs.Common.{rules}
use Rattle.diag_ecu.proofs.ecu.negative_reply.Goals as goal

pub returns : goal.returns
returns c = search rules
