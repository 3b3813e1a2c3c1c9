use Rattle.std.proofs.Common.{◌≡◌, ◌∷◌, ◌++◌, ℕ, [], Option, length, ap, subst, sym, ◌∙◌, arith, inl, inr, length-append}
use Rattle.diag_bus.specs.ResponseIds.{IsResponder}
use Rattle.diag_world.proofs.Worlds.{push_cases}
use Rattle.diag_bus.proofs.response_ids.ResponseIds.new.Goals as goal

pub loop-number-preserved : goal.loop-number-preserved
loop-number-preserved c =
    let inv = c.loop-number.invariant in
    let before = c.loop-number.testers.items in
    let n = length c.args.setup.now.testers in
    let responder = c.responder_of.result in
    let grown : c.push.new.self.items ≡ before ++ responder ∷ [] = c.in_ok-push.ensures.items in
    record {
      many = ap length grown ∙ omega (arith, length-append before (responder ∷ []), inv.many);
      each = λ id other at. elim (push_cases before id responder other (rw grown at at)) [
        | inl p ↦ (
            let place : c.in-Some.id ≡ id = omega (arith, p.0, inv.many, c.in-Some.ensures.value) in
            subst (λ (r : Option ℕ). IsResponder c.args.setup.now id n r) (sym p.1)
            (subst (λ (i : ℕ). IsResponder c.args.setup.now i n responder) place c.responder_of.ensures))
        | inr p ↦ inv.each id other p
      ];
    }

pub returns : goal.returns
returns c = record {
  many = omega (arith, c.loop-number.invariant.many, c.loop-number-test.false);
  each = c.loop-number.invariant.each;
}
