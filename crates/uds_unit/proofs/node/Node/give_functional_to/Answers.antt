use Rattle.std.proofs.Common.{◌≡◌, ◌∷◌, [], refl, ap, subst, sym, ◌∙◌, arith}
use Rattle.std.proofs.lemmas.Bool.{eq-eqb, eqb-true}
use Rattle.diag_can.specs.Event.{Event, Functional}
use Rattle.diag_can.specs.declared.frame.Ids.{Ids}
use Rattle.diag_setup.specs.Setup.{ids_of}
use Rattle.diag_bus.specs.Node.{Lasts}
use Rattle.diag_bus.specs.RequestIds.{functional_to}
use Rattle.uds_unit.proofs.Passing.{passed_as, passed_one}
use Rattle.uds_unit.proofs.node.Node.give_functional_to.Goals as goal

pub returns-then-eq : goal.returns-then-eq
returns-then-eq c =
    let setup = c.args.setup.now in
    let who = c.args.who in
    let id = c.args.id in
    let same = eqb-true id c.ids.result.functional (sym c.eq.ensures ∙ c.if-eq.true) in
    let asks : id ≡ (ids_of setup who).functional = same ∙ ap (λ (i : Ids). i.functional) c.ids.ensures in
    let to_it : (who, Functional c.args.bytes.now) ∷ [] ≡ functional_to setup id c.args.bytes.now who =
    rw (eq-eqb id (ids_of setup who).functional asks) refl in
    let now : Lasts c.functional.result 0 = subst (λ (e : Event). Lasts e 0) (sym c.functional.ensures) (λ now. omega arith) in
    passed_as refl (ap (λ (e : Event). (who, e) ∷ []) (c.functional.ensures ∙ ap Functional c.copy.ensures) ∙ to_it)
    (passed_one who c.functional.result now c.give.ensures.ok c.give.ensures.shape c.give.ensures.pace)
