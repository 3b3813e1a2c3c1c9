use Rattle.diag_tp.specs.Link.{pending}
use Rattle.diag_workers_tests.proofs.link.drain.Given as goal

abbrev pub decreases-loop-id : goal.decreases-loop-id
decreases-loop-id l = pending l.link.state
