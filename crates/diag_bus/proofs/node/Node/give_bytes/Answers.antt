use Rattle.std.proofs.Common.{ℕ, List, ◌-◌, ◌∷◌, [], length, refl, ap, subst, sym, ◌∙◌, arith}
use Rattle.diag_can.specs.Event.{Event, Physical}
use Rattle.diag_bus.specs.Node.{Lasts}
use Rattle.diag_bus.specs.RequestIds.{IsOwner, given}
use Rattle.diag_bus.specs.declared.request_ids.Owner.{Owner}
use Rattle.diag_bus.specs.declared.request_ids.Owner.TheVariants as owner
use Rattle.diag_bus.proofs.Passing.{passed_as, passed_none, passed_one, stays_kept}
use Rattle.diag_bus.proofs.node.Node.give_bytes.Goals as goal

pub returns-in-Nobody : goal.returns-in-Nobody
returns-in-Nobody g c =
    passed_as _ _ refl (ap (λ o. given c.args.setup.now c.args.id (length c.args.setup.now.testers) o c.args.bytes.now) (sym c.in-Nobody.is))
    (passed_none _ _ (stays_kept g.S.Sink.is_for g.S.Sink.aim) c.args.self.now c.args.sink.now 0)

pub give-requires-clause-in_setup : goal.give-requires-clause-in_setup
give-requires-clause-in_setup g c =
    let n = length c.args.setup.now.testers in
    let owns : IsOwner c.args.setup.now c.args.id n (owner.Tester c.in-Tester.who) =
    subst (λ (o : Owner). IsOwner c.args.setup.now c.args.id n o) c.in-Tester.is c.requires.owner in
    omega (arith, owns.among.0.1, c.requires.in_setup)

pub give-requires-clause-early : goal.give-requires-clause-early
give-requires-clause-early g c = λ port at.
    let time = c.requires.early in
    let low = time.by (c.in-Tester.who - 1) port at in
    omega (arith, low, time.early)

pub returns-in-Tester : goal.returns-in-Tester
returns-in-Tester g c =
    let who = c.in-Tester.who in
    let now : Lasts c.physical.result 0 = subst (λ (e : Event). Lasts e 0) (sym c.physical.ensures) (λ now. omega arith) in
    passed_as _ _ refl (ap (λ (e : Event). (who, e) ∷ []) (c.physical.ensures ∙ ap Physical c.copy.ensures)
    ∙ ap (λ o. given c.args.setup.now c.args.id (length c.args.setup.now.testers) o c.args.bytes.now) (sym c.in-Tester.is))
    (passed_one _ _ who c.physical.result now c.give.ensures.ok c.give.ensures.kept c.give.ensures.shape c.give.ensures.pace c.give.ensures.sent)

pub returns-in-Functional : goal.returns-in-Functional
returns-in-Functional g c =
    let setup = c.args.setup.now in
    let n = length setup.testers in
    passed_as _ _ refl (ap (λ (bytes : List ℕ). given setup c.args.id n owner.Functional bytes) c.copy-lent.ensures
    ∙ ap (λ o. given setup c.args.id n o c.args.bytes.now) (sym c.in-Functional.is))
    c.give_functional.ensures
