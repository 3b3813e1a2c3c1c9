use Rattle.std.proofs.Common.{rules}
use Rattle.diag_pdu.proofs.message.Message.try_copy.Goals as goal

pub returns-in-Long-clause-value : goal.returns-in-Long-clause-value
returns-in-Long-clause-value c = search rules
