use Rattle.std.proofs.Common.{rules}
use Rattle.diag_pdu.proofs.message.Message.in_place.Goals as goal

pub returns : goal.returns
returns c = search rules
