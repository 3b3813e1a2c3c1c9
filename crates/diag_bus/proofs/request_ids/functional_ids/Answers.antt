use Rattle.std.proofs.Common.{◌≡◌, ◌∷◌, ◌++◌, ◌+◌, ℕ, [], length, ap, subst, ◌∙◌, arith, inl, inr, length-append}
use Rattle.diag_can.specs.declared.frame.Ids.{Ids}
use Rattle.diag_setup.specs.Setup.{ids_of}
use Rattle.diag_bus.specs.RequestIds.{AreFunctional}
use Rattle.diag_world.proofs.Worlds.{push_cases}
use Rattle.diag_bus.proofs.request_ids.functional_ids.Goals as goal

pub loop-index-preserved : goal.loop-index-preserved
loop-index-preserved c =
    let inv = c.loop-index.invariant in
    let before = c.loop-index.ids.items in
    let setup = c.args.setup.now in
    let own = c.ids.result.functional in
    let grown : c.push.new.self.items ≡ before ++ own ∷ [] = c.in_ok-push.ensures.items in
    record {
      many = ap length grown ∙ omega (arith, length-append before (own ∷ []), inv.many);
      each = λ i id at. elim (push_cases before i own id (rw grown at at)) [
        | inl p ↦
            let who : c.who-who.result ≡ i + 1 = omega (arith, p.0, inv.many, c.who-who.ensures) in
            p.1 ∙ ap (λ (it : Ids). it.functional) (c.ids.ensures ∙ ap (λ t. ids_of setup t) who)
        | inr p ↦ inv.each i id p
      ];
    }

pub returns : goal.returns
returns c =
    let ended : c.loop-index.index ≡ length c.args.setup.now.testers = omega (arith, c.testers-index-end.ensures.same, c.loop-index.auto.index-end, c.loop-index-test.false) in
    subst (λ (n : ℕ). AreFunctional c.args.setup.now c.loop-index.ids.items n) ended c.loop-index.invariant
