use Rattle.std.proofs.Common.{rules}
use Rattle.diag_pdu.proofs.message.Message.bytes.Goals as goal

pub returns-in-Long-clause-same : goal.returns-in-Long-clause-same
returns-in-Long-clause-same c = search rules

pub returns-in-Long-clause-fits : goal.returns-in-Long-clause-fits
returns-in-Long-clause-fits c = search rules
