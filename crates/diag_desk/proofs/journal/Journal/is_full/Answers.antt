use Rattle.std.proofs.Common.{rules}
use Rattle.diag_desk.proofs.journal.Journal.is_full.Goals as goal

pub returns : goal.returns
returns c = search rules
