use Rattle.std.proofs.Common.{rules}
use Rattle.diag_desk.proofs.text.add_reply.Goals as goal

pub returns-in-Some-clause-items : goal.returns-in-Some-clause-items
returns-in-Some-clause-items c = search rules
