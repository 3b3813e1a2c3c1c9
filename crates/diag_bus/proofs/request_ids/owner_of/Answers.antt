use Rattle.std.proofs.Common.{◌≡◌, ◌≢◌, ◌<◌, ◌+◌, ap, arith, length, subst, sym, ◌∙◌}
use Rattle.std.proofs.lemmas.Bool.{eqb-false, eqb-true}
use Rattle.diag_can.specs.declared.frame.Ids.{Ids}
use Rattle.diag_setup.specs.Setup.{ids_of}
use Rattle.diag_bus.specs.RequestIds.{IsOwner}
use Rattle.diag_bus.specs.declared.request_ids.Owner.{Owner}
use Rattle.diag_bus.specs.declared.request_ids.Owner.TheVariants.{Tester}
use Rattle.diag_bus.proofs.Owners.{owner_asks, owner_found, owner_stays}
use Rattle.diag_bus.proofs.request_ids.owner_of.Goals.{then-eq, else-eq+then-eq-2, else-eq+else-eq-2}
use Rattle.diag_bus.proofs.request_ids.owner_of.Goals as goal

pub loop-index-preserved : goal.loop-index-preserved
loop-index-preserved c =
    let setup = c.args.setup.now in
    let id = c.args.id in
    let n = c.loop-index.index in
    let ids = c.ids-ids.result in
    let well = c.raw.ensures.checked.0 in
    let within : n < length setup.testers = omega (arith, c.loop-index-test.true, c.testers-index-end.ensures.same) in
    let who = c.who-who.ensures in
    let is : ids ≡ ids_of setup (n + 1) = c.ids-ids.ensures ∙ ap (λ t. ids_of setup t) who in
    let request : ids.request ≡ (ids_of setup (n + 1)).request = ap (λ (i : Ids). i.request) is in
    let functional : ids.functional ≡ (ids_of setup (n + 1)).functional = ap (λ (i : Ids). i.functional) is in
    elim c.if-eq.branch [
      | then-eq w ↦ (
          let same : id ≡ (ids_of setup (n + 1)).request = sym (eqb-true ids.request id (sym c.eq.ensures ∙ w.if-eq.true)) ∙ request in
          subst (λ (o : Owner). IsOwner setup id (n + 1) o) (sym (w.owner-is ∙ ap Tester who))
          (owner_found setup id n well within same c.loop-index.owner c.loop-index.invariant))
      | else-eq+then-eq-2 w ↦ (
          let other : id ≢ (ids_of setup (n + 1)).request = λ same.
          eqb-false ids.request id (sym c.eq.ensures ∙ w.if-eq.false) (request ∙ sym same) in
          let asks : id ≡ (ids_of setup (n + 1)).functional =
          sym (eqb-true ids.functional id (sym w.eq-else-eq.ensures ∙ w.if-eq-2.true)) ∙ functional in
          subst (λ (o : Owner). IsOwner setup id (n + 1) o) (sym w.owner-is)
          (owner_asks setup id n well within other asks c.loop-index.owner c.loop-index.invariant))
      | else-eq+else-eq-2 w ↦ (
          let other : id ≢ (ids_of setup (n + 1)).request = λ same.
          eqb-false ids.request id (sym c.eq.ensures ∙ w.if-eq.false) (request ∙ sym same) in
          let apart : id ≢ (ids_of setup (n + 1)).functional = λ same.
          eqb-false ids.functional id (sym w.eq-else-eq.ensures ∙ w.if-eq-2.false) (functional ∙ sym same) in
          subst (λ (o : Owner). IsOwner setup id (n + 1) o) (sym w.owner-is)
          (owner_stays setup id n well within other apart c.loop-index.owner c.loop-index.invariant))
    ]
