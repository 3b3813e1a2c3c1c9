use Rattle.std.proofs.Common.{rules}
use Rattle.diag_workers.proofs.keeping.JournalKeep.enter.Goals as goal

pub returns : goal.returns
returns c = search rules
