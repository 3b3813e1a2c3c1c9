use Rattle.std.proofs.Common.{rules}
use Rattle.diag_desk.proofs.journal.Journal.new.Goals as goal

pub returns : goal.returns
returns c = search rules
