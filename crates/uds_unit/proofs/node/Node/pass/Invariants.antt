use Rattle.std.proofs.Common.{◌*◌, Ok, length}
use Rattle.std.specs.List.{flat_map}
use Rattle.std.specs.Prelude.{replicate}
use Rattle.std.specs.declared.alloc.AllocError.{AllocError}
use Rattle.diag_can.specs.Event.{Ticks}
use Rattle.diag_world.specs.Server.{each_of}
use Rattle.uds_unit.specs.Node.{Passed}
use Rattle.uds_unit.proofs.node.Node.pass.Given as goal

abbrev pub invariant-loop-part : goal.invariant-loop-part
invariant-loop-part l = Passed {A = Unit {0}} {E = AllocError} l.initial.self l.self (60000 * l.part)
    (flat_map (each_of (length l.setup.testers)) (replicate l.part (Ticks 60000))) (Ok tt)
