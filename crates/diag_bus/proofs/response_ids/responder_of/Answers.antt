use Rattle.std.proofs.Common.{◌≡◌, ◌≢◌, ◌<◌, ◌+◌, ℕ, ap, arith, length, subst, sym, ◌∙◌, Option, Some}
use Rattle.std.proofs.lemmas.Bool.{eqb-false, eqb-true}
use Rattle.diag_can.specs.declared.frame.Ids.{Ids}
use Rattle.diag_setup.specs.Setup.{ids_of}
use Rattle.diag_bus.specs.ResponseIds.{IsResponder}
use Rattle.diag_bus.proofs.Responders.{responder_found, responder_none, responder_stays}
use Rattle.diag_bus.proofs.response_ids.responder_of.Goals.{then-eq, else-eq}
use Rattle.diag_bus.proofs.response_ids.responder_of.Goals as goal

pub loop-index-init : goal.loop-index-init
loop-index-init c = responder_none c.args.setup.now c.args.id

pub loop-index-preserved : goal.loop-index-preserved
loop-index-preserved c =
    let setup = c.args.setup.now in
    let id = c.args.id in
    let n = c.loop-index.index in
    let well = c.raw.ensures.checked.0 in
    let within : n < length setup.testers = omega (arith, c.loop-index-test.true, c.testers-index-end.ensures.same) in
    let who = c.who-who.ensures in
    let response : c.ids.result.response ≡ (ids_of setup (n + 1)).response =
    ap (λ (ids : Ids). ids.response) c.ids.ensures ∙ ap (λ t. (ids_of setup t).response) who in
    elim c.if-eq.branch [
      | then-eq w ↦ (
          let same : (ids_of setup (n + 1)).response ≡ id = sym response ∙ eqb-true c.ids.result.response id (sym c.eq.ensures ∙ w.if-eq.true) in
          subst (λ (r : Option ℕ). IsResponder setup id (n + 1) r) (sym (w.responder-is ∙ ap Some who))
          (responder_found setup id n c.loop-index.responder c.loop-index.invariant well within same))
      | else-eq w ↦ (
          let other : (ids_of setup (n + 1)).response ≢ id = λ same.
          eqb-false c.ids.result.response id (sym c.eq.ensures ∙ w.if-eq.false) (response ∙ same) in
          subst (λ (r : Option ℕ). IsResponder setup id (n + 1) r) (sym w.responder-is)
          (responder_stays setup id n c.loop-index.responder c.loop-index.invariant other))
    ]
