use Rattle.diag_tp.specs.Link.{pending}
use Rattle.diag_workers_tests.proofs.unit.send_due.Given as goal

abbrev pub decreases-loop-id : goal.decreases-loop-id
decreases-loop-id g l = pending l.link.state
