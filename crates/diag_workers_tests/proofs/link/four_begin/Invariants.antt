use Rattle.std.proofs.Common.{◌≡◌}
use Rattle.diag_tp.specs.Link.{pending}
use Rattle.diag_workers_tests.proofs.link.four_begin.Given as goal

abbrev pub invariant-loop : goal.invariant-loop
invariant-loop l = pending l.link.state ≡ 0
