use Rattle.std.proofs.Common.{◌≡◌}
use Rattle.diag_workers_tests.proofs.gate.threads.step_often.Given as goal

abbrev pub invariant-loop : goal.invariant-loop
invariant-loop g l = g.D.Door.home l.door ≡ g.D.Door.home l.initial.door
