use Rattle.std.proofs.Common.{ℕ}
use Rattle.diag_world.specs.Server.{each_of}
use Rattle.diag_bus.specs.Node.{Lasts}
use Rattle.diag_bus.proofs.Paces.{SomeWentOn}
use Rattle.uds_unit.specs.Node.{Gave, SameShape}
use Rattle.uds_unit.proofs.node.Node.give_to_each.Given as goal

abbrev pub invariant-loop-index : goal.invariant-loop-index
invariant-loop-index l = record {
  shape : SameShape l.initial.self l.self;
  gave : Gave l.initial.self l.self (each_of l.index l.event);
  pace : (span : ℕ) → Lasts l.event span → SomeWentOn l.initial.self.server l.self.server l.index span;
}
