use Rattle.std.proofs.lemmas.Result.{on_ok_weaker}
use Rattle.diag_bus.proofs.Entries.{entry_more}
use Rattle.diag_bus.proofs.journal.JournalSink.enter_ticks.Goals as goal

pub returns-clause-entered : goal.returns-clause-entered
returns-clause-entered c =
    on_ok_weaker c.add_ticks.result (λ wrote. λ setup lines K ecu before taken.
    entry_more c.args.self.now c.add_ticks.new.self setup lines K _ c.args.before wrote before taken) c.add_ticks.ensures
