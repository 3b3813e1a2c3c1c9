use Rattle.std.proofs.Common.{◌≡◌, length}
use Rattle.diag_workers_tests.proofs.server.take_frame.Given as goal

abbrev pub invariant-loop-index : goal.invariant-loop-index
invariant-loop-index l = length l.server.ports ≡ length l.fn.server.ports
