use Rattle.diag_run.specs.Playing.{Terms}
use Rattle.diag_run.proofs.Written.{plays_begin, ready_begins}
use Rattle.diag_run.proofs.playing.Playing.new.Goals as goal

pub returns-clause-plays : goal.returns-clause-plays
returns-clause-plays c =
    let terms : Terms = record { setup = c.args.setup.now; only_journal = c.args.only_journal; timing = c.args.timing } in
    plays_begin terms _ c.in_ok-server.ensures c.in_ok-journal.ensures.enters c.in_ok-lines.ensures.none c.in_ok-lines.ensures.many

pub returns-clause-ready : goal.returns-clause-ready
returns-clause-ready c = ready_begins c.args.setup.now _ c.in_ok-server.ensures c.in_ok-journal.ensures.none c.new-3.ensures.items
