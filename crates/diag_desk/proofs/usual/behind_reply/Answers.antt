use Rattle.std.proofs.Common.{rules}
use Rattle.diag_desk.proofs.usual.behind_reply.Goals as goal

pub returns-in-Some-clause-text : goal.returns-in-Some-clause-text
returns-in-Some-clause-text c = search rules
