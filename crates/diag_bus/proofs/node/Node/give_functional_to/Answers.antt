use Rattle.std.proofs.Common.{◌≡◌, ◌∷◌, [], refl, ap, subst, sym, ◌∙◌, arith}
use Rattle.std.proofs.lemmas.Bool.{eq-eqb, eqb-true}
use Rattle.diag_can.specs.Event.{Event, Functional}
use Rattle.diag_setup.specs.Setup.{ids_of}
use Rattle.diag_bus.specs.Node.{Lasts}
use Rattle.diag_bus.specs.RequestIds.{functional_to}
use Rattle.diag_bus.proofs.Passing.{passed_as, passed_one}
use Rattle.diag_bus.proofs.node.Node.give_functional_to.Goals as goal

pub returns-then-eq : goal.returns-then-eq
returns-then-eq g c bytes is =
    let setup = c.args.setup.now in
    let who = c.args.who in
    let id = c.args.id in
    let asks : id ≡ (ids_of setup who).functional = eqb-true id c.functional.result (sym c.eq.ensures ∙ c.if-eq.true) ∙ c.functional.ensures in
    let to_it : (who, Functional bytes) ∷ [] ≡ functional_to setup id bytes who =
    rw (eq-eqb id (ids_of setup who).functional asks) refl in
    let now : Lasts c.args.event.now 0 = subst (λ (e : Event). Lasts e 0) (sym is) (λ now. omega arith) in
    passed_as _ _ refl (ap (λ (e : Event). (who, e) ∷ []) is ∙ to_it)
    (passed_one _ _ who c.args.event.now now c.give.ensures.ok c.give.ensures.kept c.give.ensures.shape c.give.ensures.pace c.give.ensures.sent)
