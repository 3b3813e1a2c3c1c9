use Rattle.std.proofs.Common.{Ok}
use Rattle.std.specs.declared.alloc.AllocError.{AllocError}
use Rattle.diag_bus.specs.RequestIds.{functional_to_all}
use Rattle.uds_unit.specs.Node.{Passed}
use Rattle.uds_unit.proofs.node.Node.give_functional.Given as goal

abbrev pub invariant-loop-index : goal.invariant-loop-index
invariant-loop-index l = Passed {A = Unit {0}} {E = AllocError} l.initial.self l.self 0 (functional_to_all l.setup l.id l.index l.bytes) (Ok tt)
