use Rattle.std.proofs.Common.{◌*◌, Ok, length}
use Rattle.std.specs.List.{flat_map}
use Rattle.std.specs.Prelude.{replicate}
use Rattle.std.specs.declared.alloc.AllocError.{AllocError}
use Rattle.diag_can.specs.Event.{Ticks}
use Rattle.diag_world.specs.Server.{each_of}
use Rattle.diag_bus.specs.Node.{Passed}
use Rattle.diag_bus.specs.Sink.{StaysFor}
use Rattle.diag_bus.proofs.node.Node.pass_parts.Given as goal

abbrev pub invariant-loop-part : goal.invariant-loop-part
invariant-loop-part g l = Passed {A = Unit {0}} {E = AllocError} g.S.Sink.took (StaysFor g.S.Sink.is_for g.S.Sink.aim) l.initial.self l.initial.sink l.self l.sink (60000 * l.part)
    (flat_map (each_of (length l.setup.testers)) (replicate l.part (Ticks 60000))) (Ok tt)
