use Rattle.std.proofs.Common.{[]}
use Rattle.diag_bus.proofs.Entries.{none_entered}
use Rattle.diag_bus.proofs.journal.JournalSink.begin.Goals as goal

pub returns-clause-begun : goal.returns-clause-begun
returns-clause-begun c = (tt, none_entered (record { text = c.clear.new.self }) c.args.arg3.now [] c.clear.ensures.items)
