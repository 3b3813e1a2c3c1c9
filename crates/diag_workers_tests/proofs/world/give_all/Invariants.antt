use Rattle.std.proofs.Common.{◌≡◌, length}
use Rattle.diag_workers_tests.proofs.world.give_all.Given as goal

abbrev pub invariant-loop-index : goal.invariant-loop-index
invariant-loop-index l = length l.world.sent ≡ length l.fn.world.sent
