use Rattle.std.proofs.Common.{◌≡◌, length}
use Rattle.diag_workers_tests.proofs.server.hear_all.Given as goal

abbrev pub invariant-loop-heard : goal.invariant-loop-heard
invariant-loop-heard l = length l.server.ports ≡ length l.fn.server.ports
