use Rattle.std.proofs.Common.{ℕ}
use Rattle.diag_world.specs.Server.{each_of}
use Rattle.diag_bus.specs.Node.{Gave, Lasts, SameShape, SentIn}
use Rattle.diag_bus.specs.Sink.{StaysFor}
use Rattle.diag_bus.proofs.Paces.{SomeWentOn}
use Rattle.diag_bus.proofs.node.Node.give_to_each.Given as goal

abbrev pub invariant-loop-index : goal.invariant-loop-index
invariant-loop-index g l = record {
  shape : SameShape l.initial.self l.self;
  kept : StaysFor g.S.Sink.is_for g.S.Sink.aim l.initial.sink l.sink;
  gave : Gave g.S.Sink.took l.initial.self l.initial.sink l.self l.sink (each_of l.index l.event);
  pace : (span : ℕ) → Lasts l.event span → SomeWentOn l.initial.self.server l.self.server l.index span;
  sent : (span : ℕ) → Lasts l.event span → SentIn l.initial.self l.self span;
}
