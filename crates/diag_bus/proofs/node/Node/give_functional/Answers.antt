use Rattle.std.proofs.Common.{◌≡◌, length, refl, ap, sym, arith}
use Rattle.std.proofs.lemmas.Result.{err_from_is_err_and}
use Rattle.diag_bus.specs.RequestIds.{functional_to_all}
use Rattle.diag_bus.proofs.Nodes.{functional_more}
use Rattle.diag_bus.proofs.Paces.{has_left}
use Rattle.diag_bus.proofs.Passing.{passed_as, passed_err, passed_none, passed_then, stays_kept}
use Rattle.diag_bus.proofs.node.Node.give_functional.Goals as goal

pub loop-index-init : goal.loop-index-init
loop-index-init g c = passed_none _ _ (stays_kept g.S.Sink.is_for g.S.Sink.aim) c.args.self.now c.args.sink.now 0

pub give_functional_to-requires : goal.give_functional_to-requires
give_functional_to-requires g c =
    let inv = c.loop-index.invariant in
    let who = c.who-who.ensures in
    let within = c.testers-index-end.ensures.same in
    record {
      known = omega (arith, who, within, c.loop-index-test.true);
      in_setup = omega (arith, who, within, c.loop-index-test.true, inv.shape.ports, c.requires.in_setup);
      lists = omega (arith, inv.shape.ports, inv.shape.lists, c.requires.in_setup, c.requires.lists);
      ids = c.requires.ids;
      early = has_left c.args.self.now.server c.loop-index.self.server 0 0 0 (omega arith) c.requires.early inv.pace;
    }

pub loop-index-preserved : goal.loop-index-preserved
loop-index-preserved g c =
    let who = c.who-who.ensures in
    passed_as _ _ refl (sym (functional_more c.args.setup.now c.args.id c.args.bytes.now c.loop-index.index c.who-who.result who))
    (passed_then _ _ (stays_kept g.S.Sink.is_for g.S.Sink.aim) 0 (omega arith) c.loop-index.invariant (c.in_ok-give_functional_to.ensures c.args.bytes.now c.requires.event))

pub returns-in_err-give_functional_to : goal.returns-in_err-give_functional_to
returns-in_err-give_functional_to g c =
    passed_err _ _ 0 _ (omega arith) (err_from_is_err_and c.from_residual.result c.from_residual.ensures.1).1
    (passed_then _ _ (stays_kept g.S.Sink.is_for g.S.Sink.aim) 0 (omega arith) c.loop-index.invariant (c.in_err-give_functional_to.ensures c.args.bytes.now c.requires.event))

pub returns : goal.returns
returns g c =
    let ended : c.loop-index.index ≡ length c.args.setup.now.testers = omega (arith, c.testers-index-end.ensures.same, c.loop-index.auto.index-end, c.loop-index-test.false) in
    passed_as _ _ refl (ap (λ n. functional_to_all c.args.setup.now c.args.id n c.args.bytes.now) ended) c.loop-index.invariant
