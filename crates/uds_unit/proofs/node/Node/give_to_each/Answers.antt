use Rattle.std.proofs.Common.{◌≡◌, ◌+◌, ◌-◌, length, subst, sym, arith}
use Rattle.diag_world.proofs.Waiting.{each_more}
use Rattle.diag_world.specs.Server.{each_of}
use Rattle.diag_bus.proofs.Paces.{lasts, some_all, some_more, some_none}
use Rattle.uds_unit.specs.Node.{Gave}
use Rattle.uds_unit.proofs.Passing.{gave_more, gave_none, same_more, same_none}
use Rattle.uds_unit.proofs.node.Node.give_to_each.Goals as goal

pub loop-index-init : goal.loop-index-init
loop-index-init c = record {
  shape = same_none c.args.self.now;
  gave = gave_none c.args.self.now;
  pace = λ span most. some_none c.args.self.now.server span;
}

pub give-requires-clause-in_setup : goal.give-requires-clause-in_setup
give-requires-clause-in_setup c =
    let who = c.who-who.ensures in
    omega (arith, who, c.loop-index.invariant.shape.ports, c.requires.in_setup, c.testers-index-end.ensures.same)

pub give-requires-clause-lists : goal.give-requires-clause-lists
give-requires-clause-lists c = omega
    (arith, c.loop-index.invariant.shape.ports, c.loop-index.invariant.shape.lists, c.requires.in_setup, c.requires.lists)

pub give-requires-clause-early : goal.give-requires-clause-early
give-requires-clause-early c = λ port at.
    let who = c.who-who.ensures in
    let time = c.requires.early in
    let span = lasts c.args.event.now in
    let low = (c.loop-index.invariant.pace span.0 span.1 time.time time.by (c.who-who.result - 1) port at).1 (omega (arith, who)) in
    omega (arith, low, time.early)

pub loop-index-preserved : goal.loop-index-preserved
loop-index-preserved c =
    let old = c.args.self.now in
    let mid = c.loop-index.self in
    let new = c.give.new.self in
    let inv = c.loop-index.invariant in
    let place = c.who-who.result - 1 in
    let who = c.who-who.ensures in
    let here : place ≡ c.loop-index.index = omega (arith, who) in
    record {
      shape = same_more old mid new inv.shape c.give.ensures.shape;
      gave = subst (λ L. Gave old new L) (sym (each_more c.loop-index.index c.args.event.now c.who-who.result who))
          (gave_more old mid new _ _ inv.gave c.in_ok-give.ensures.ok);
      pace = λ span most. some_more old.server mid.server new.server c.loop-index.index place span here (inv.pace span most)
          (c.give.ensures.pace span most);
    }

pub returns-clause-ok : goal.returns-clause-ok
returns-clause-ok c =
    let ended : c.loop-index.index ≡ length c.args.setup.now.testers = omega (arith, c.testers-index-end.ensures.same) in
    subst (λ n. Gave c.args.self.now c.loop-index.self (each_of n c.args.event.now)) ended c.loop-index.invariant.gave

pub returns-in_err-give-clause-shape : goal.returns-in_err-give-clause-shape
returns-in_err-give-clause-shape c =
    same_more c.args.self.now c.loop-index.self c.give.new.self c.loop-index.invariant.shape c.give.ensures.shape

pub returns-clause-pace : goal.returns-clause-pace
returns-clause-pace c = λ span most.
    some_all c.args.self.now.server c.loop-index.self.server c.loop-index.index span (c.loop-index.invariant.pace span most)

pub returns-in_err-give-clause-pace : goal.returns-in_err-give-clause-pace
returns-in_err-give-clause-pace c = λ span most.
    let who = c.who-who.ensures in
    some_all c.args.self.now.server c.give.new.self.server (c.loop-index.index + 1) span
    (some_more c.args.self.now.server c.loop-index.self.server c.give.new.self.server c.loop-index.index (c.who-who.result - 1) span
    (omega (arith, who)) (c.loop-index.invariant.pace span most) (c.give.ensures.pace span most))
