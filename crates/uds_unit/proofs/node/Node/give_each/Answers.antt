use Rattle.std.proofs.Common.{length, subst, sym, arith}
use Rattle.std.specs.Prelude.{OnOk}
use Rattle.diag_can.specs.Event.{Event}
use Rattle.diag_world.specs.Server.{each_of}
use Rattle.diag_bus.specs.Node.{Lasts}
use Rattle.diag_bus.proofs.Paces.{ticks_time}
use Rattle.uds_unit.specs.Node.{Gave}
use Rattle.uds_unit.proofs.Passing.{passed_quietly}
use Rattle.uds_unit.proofs.node.Node.give_each.Goals as goal

pub returns-then-from-quiet : goal.returns-then-from-quiet
returns-then-from-quiet c =
    passed_quietly c.args.self.now c.pass_quietly.new.self (length c.args.setup.now.testers) c.args.count
    c.if-not-self.true c.pass_quietly.ensures.waited

pub give_to_each-requires-clause-early : goal.give_to_each-requires-clause-early
give_to_each-requires-clause-early c =
    let time = c.requires.early in
    record { time = time.time; by = time.by; early = omega (arith, time.early) }

pub returns : goal.returns
returns c =
    let count = c.args.count in
    let most : Lasts c.ticks.result count = subst (λ (e : Event). Lasts e count) (sym c.ticks.ensures) (ticks_time count) in
    record {
      ok = subst (λ (e : Event). OnOk c.give_to_each.result (Gave c.args.self.now c.give_to_each.new.self (each_of (length c.args.setup.now.testers) e)))
          c.ticks.ensures c.give_to_each.ensures.ok;
      shape = c.give_to_each.ensures.shape;
      pace = c.give_to_each.ensures.pace count most;
    }
