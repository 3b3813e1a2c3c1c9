use Rattle.std.proofs.Common.{◌≡◌, ◌≤◌, ◌<◌, ◌+◌, ◌*◌, ℕ, ◌++◌, length, refl, ap, sym, ◌∙◌, arith}
use Rattle.std.proofs.lemmas.Bool.{false≢true}
use Rattle.std.proofs.lemmas.Result.{err_from_is_err_and}
use Rattle.std.specs.List.{flat_map}
use Rattle.std.specs.Prelude.{replicate, ◌/◌, ◌%◌}
use Rattle.diag_can.specs.Event.{Ticks}
use Rattle.diag_world.specs.Server.{each_of}
use Rattle.diag_bus.proofs.Nodes.{parts_more, rest_more, waited_whole, waited_rest}
use Rattle.diag_bus.proofs.Paces.{has_left}
use Rattle.diag_bus.proofs.Passing.{passed_as, passed_err, passed_none, passed_then, stays_kept}
use Rattle.diag_bus.proofs.node.Node.pass_parts.Goals as goal

pub loop-part-init : goal.loop-part-init
loop-part-init g c = passed_none _ _ (stays_kept g.S.Sink.is_for g.S.Sink.aim) c.args.self.now c.args.sink.now (60000 * 0)

-- one part more fits
parts_fit : (part ms : ℕ) → part < ms / 60000 → 60000 * part + 60000 ≤ ms
parts_fit part ms less = omega arith

pub give_each-requires : goal.give_each-requires
give_each-requires g c =
    let inv = c.loop-part.invariant in
    let fits = parts_fit c.loop-part.part c.args.ms (omega (arith, c.loop-part-test.true)) in
    record {
      in_setup = inv.shape.ports ∙ c.requires.in_setup;
      lists = inv.shape.lists ∙ c.requires.lists;
      early = has_left c.args.self.now.server c.loop-part.self.server c.args.ms (60000 * c.loop-part.part) c.longest.result
          (omega (arith, c.longest.ensures, fits)) c.requires.early inv.pace;
      rest = inv.shape.rest c.requires.rest;
    }

-- what is left behind the parts
rest_fits : (part ms : ℕ) → part ≡ ms / 60000 → 60000 * part + ms % 60000 ≤ ms
rest_fits part ms is = omega arith

pub give_each-requires-in-Some : goal.give_each-requires-in-Some
give_each-requires-in-Some g c =
    let inv = c.loop-part.invariant in
    let ended : c.loop-part.part ≡ c.args.ms / 60000 = omega (arith, c.loop-part.auto.part-end, c.loop-part-test.false) in
    let fits = rest_fits c.loop-part.part c.args.ms ended in
    record {
      in_setup = inv.shape.ports ∙ c.requires.in_setup;
      lists = inv.shape.lists ∙ c.requires.lists;
      early = has_left c.args.self.now.server c.loop-part.self.server c.args.ms (60000 * c.loop-part.part) c.in-Some.rest
          (omega (arith, c.in-Some.ensures.value, fits)) c.requires.early inv.pace;
      rest = inv.shape.rest c.requires.rest;
    }

pub loop-part-preserved : goal.loop-part-preserved
loop-part-preserved g c =
    let n = length c.args.setup.now.testers in
    let long : each_of n (Ticks c.longest.result) ≡ each_of n (Ticks 60000) = ap (λ k. each_of n (Ticks k)) c.longest.ensures in
    passed_as _ _ refl (ap (λ w. flat_map (each_of n) (replicate c.loop-part.part (Ticks 60000)) ++ w) long
    ∙ sym (parts_more n c.loop-part.part (Ticks 60000)))
    (passed_then _ _ (stays_kept g.S.Sink.is_for g.S.Sink.aim) (60000 * (c.loop-part.part + 1)) (omega (arith, c.longest.ensures)) c.loop-part.invariant c.in_ok-give_each.ensures)

pub returns-in_err-give_each : goal.returns-in_err-give_each
returns-in_err-give_each g c =
    let fits = parts_fit c.loop-part.part c.args.ms (omega (arith, c.loop-part-test.true)) in
    passed_err _ _ c.args.ms _ (omega (arith, fits)) (err_from_is_err_and c.from_residual.result c.from_residual.ensures.1).1
    (passed_then _ _ (stays_kept g.S.Sink.is_for g.S.Sink.aim) (60000 * c.loop-part.part + 60000) (omega (arith, c.longest.ensures)) c.loop-part.invariant c.in_err-give_each.ensures)

pub returns-in-None : goal.returns-in-None
returns-in-None g c =
    let n = length c.args.setup.now.testers in
    let ended : c.loop-part.part ≡ c.args.ms / 60000 = omega (arith, c.loop-part.auto.part-end, c.loop-part-test.false) in
    let no : 1 ≤ c.args.ms % 60000 → ⊥ = λ some. false≢true (c.in-None.ensures.found.1 (some, omega arith)) in
    let none : c.args.ms % 60000 ≡ 0 = omega (arith, no) in
    passed_as _ _ (omega (arith, rest_fits c.loop-part.part c.args.ms ended, ended, none))
    (ap (λ k. flat_map (each_of n) (replicate k (Ticks 60000))) ended ∙ ap (flat_map (each_of n)) (sym (waited_whole c.args.ms none)))
    c.loop-part.invariant

pub returns-in-Some : goal.returns-in-Some
returns-in-Some g c =
    let n = length c.args.setup.now.testers in
    let ended : c.loop-part.part ≡ c.args.ms / 60000 = omega (arith, c.loop-part.auto.part-end, c.loop-part-test.false) in
    let rest : c.in-Some.rest ≡ c.args.ms % 60000 = c.in-Some.ensures.value in
    let some : 1 ≤ c.args.ms % 60000 = (c.in-Some.ensures.found.0 refl).0 in
    let whole = replicate (c.args.ms / 60000) (Ticks 60000) in
    passed_as _ _ refl (ap (λ k. flat_map (each_of n) (replicate k (Ticks 60000)) ++ each_of n (Ticks c.in-Some.rest)) ended
    ∙ (ap (λ k. flat_map (each_of n) whole ++ each_of n (Ticks k)) rest
    ∙ (sym (rest_more n whole (Ticks (c.args.ms % 60000))) ∙ ap (flat_map (each_of n)) (sym (waited_rest c.args.ms some)))))
    (passed_then _ _ (stays_kept g.S.Sink.is_for g.S.Sink.aim) c.args.ms (omega (arith, rest, rest_fits c.loop-part.part c.args.ms ended)) c.loop-part.invariant c.give_each-in-Some.ensures)
