use Rattle.std.proofs.Common.{Ok}
use Rattle.std.specs.declared.alloc.AllocError.{AllocError}
use Rattle.diag_bus.specs.Node.{Passed}
use Rattle.diag_bus.specs.RequestIds.{functional_to_all}
use Rattle.diag_bus.specs.Sink.{StaysFor}
use Rattle.diag_bus.proofs.node.Node.give_functional.Given as goal

abbrev pub invariant-loop-index : goal.invariant-loop-index
invariant-loop-index g l = Passed {A = Unit {0}} {E = AllocError} g.S.Sink.took (StaysFor g.S.Sink.is_for g.S.Sink.aim) l.initial.self l.initial.sink l.self l.sink 0
    (functional_to_all l.setup l.id l.index l.bytes) (Ok tt)
