use Rattle.std.proofs.Common.{rules}
use Rattle.diag_desk.proofs.text.write_header.Goals as goal

pub returns-in-Stamped-clause-ok : goal.returns-in-Stamped-clause-ok
returns-in-Stamped-clause-ok c = search rules
