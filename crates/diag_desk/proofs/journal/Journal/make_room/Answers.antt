use Rattle.std.proofs.Common.{rules}
use Rattle.diag_desk.proofs.journal.Journal.make_room.Goals as goal

pub returns-clause-ok : goal.returns-clause-ok
returns-clause-ok c = search rules
