use Rattle.std.proofs.Common.{◌≡◌}
use Rattle.diag_ecu.specs.Elapse.{elapse_each}
use Rattle.diag_ecu.proofs.ecu.Ecu.ticks_one_by_one.Given as goal

abbrev pub invariant-loop-index : goal.invariant-loop-index
invariant-loop-index l = l.self ≡ elapse_each l.fn.self l.index l.count
