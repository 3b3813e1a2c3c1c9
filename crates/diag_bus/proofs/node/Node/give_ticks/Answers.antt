use Rattle.std.proofs.Common.{subst, sym, arith}
use Rattle.std.specs.Prelude.{OnOk, length}
use Rattle.std.proofs.lemmas.Result.{on_ok_weaker}
use Rattle.diag_can.specs.Event.{Event}
use Rattle.diag_world.specs.Server.{each_of}
use Rattle.diag_bus.specs.Node.{Gave, Lasts}
use Rattle.diag_bus.proofs.Paces.{ticks_time}
use Rattle.diag_bus.proofs.node.Node.give_ticks.Goals as goal

pub give_to_each-requires-clause-early : goal.give_to_each-requires-clause-early
give_to_each-requires-clause-early g c =
    let time = c.requires.early in
    record { time = time.time; by = time.by; early = omega (arith, time.early) }

pub returns : goal.returns
returns g c =
    let count = c.args.count in
    let most : Lasts c.ticks.result count = subst (λ (e : Event). Lasts e count) (sym c.ticks.ensures) (ticks_time count) in
    record {
      ok = subst (λ (e : Event). OnOk c.give_to_each.result (Gave g.S.Sink.took c.args.self.now c.args.sink.now c.give_to_each.new.self c.give_to_each.new.sink
          (each_of (length c.args.setup.now.testers) e))) c.ticks.ensures c.give_to_each.ensures.ok;
      kept = c.give_to_each.ensures.kept;
      shape = c.give_to_each.ensures.shape;
      pace = c.give_to_each.ensures.pace count most;
      sent = on_ok_weaker c.give_to_each.result (λ sent. sent count most) c.give_to_each.ensures.sent;
    }
