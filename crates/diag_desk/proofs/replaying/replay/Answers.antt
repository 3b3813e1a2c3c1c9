use Rattle.diag_desk.proofs.Runs.{replays_again}
use Rattle.diag_desk.proofs.replaying.replay.Goals as goal

pub returns-clause-again : goal.returns-clause-again
returns-clause-again c = replays_again c.args.setup.now c.args.journal.now.entries c.replay_all.result c.replay_all.ensures.differs
