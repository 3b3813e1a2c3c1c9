use Rattle.std.proofs.Common.{◌≡◌, ◌≤◌, length, refl, ap, sym, arith}
use Rattle.std.proofs.lemmas.Bool.{false≢true}
use Rattle.std.specs.List.{flat_map}
use Rattle.diag_can.specs.Log.{waited}
use Rattle.diag_world.specs.Server.{each_of}
use Rattle.diag_bus.proofs.Nodes.{waited_few}
use Rattle.diag_bus.proofs.Passing.{passed_as, passed_none, stays_kept}
use Rattle.diag_bus.proofs.node.Node.pass.Goals as goal

pub returns-in-None : goal.returns-in-None
returns-in-None g c =
    let no : 1 ≤ c.args.ms → ⊥ = λ some. false≢true (c.in-None.ensures.found.1 (omega (arith, some), omega arith)) in
    let none : c.args.ms ≡ 0 = omega (arith, no) in
    passed_as _ _ refl (ap (λ ms. flat_map (each_of (length c.args.setup.now.testers)) (waited ms)) (sym none)) (passed_none _ _ (stays_kept g.S.Sink.is_for g.S.Sink.aim) c.args.self.now c.args.sink.now c.args.ms)

pub returns-in-Some : goal.returns-in-Some
returns-in-Some g c =
    let some : 1 ≤ c.args.ms = (c.in-Some.ensures.found.0 refl).0 in
    passed_as _ _ c.in-Some.ensures.value (waited_few (length c.args.setup.now.testers) c.args.ms c.in-Some.count c.in-Some.ensures.value some
    c.if-ms-ge-LONGEST_COUNT.false) c.give_each.ensures
