use Rattle.std.proofs.Common.{◌≡◌, ◌∷◌, ◌++◌, ℕ, [], length, ap, subst, sym, ◌∙◌, arith, inl, inr, length-append}
use Rattle.diag_bus.specs.RequestIds.{IsOwner}
use Rattle.diag_bus.specs.declared.request_ids.Owner.{Owner}
use Rattle.diag_world.proofs.Worlds.{push_cases}
use Rattle.diag_bus.proofs.request_ids.RequestIds.new.Goals as goal

pub loop-number-preserved : goal.loop-number-preserved
loop-number-preserved c =
    let inv = c.loop-number.invariant in
    let before = c.loop-number.owners.items in
    let n = length c.args.setup.now.testers in
    let owner = c.owner_of.result in
    let grown : c.push.new.self.items ≡ before ++ owner ∷ [] = c.in_ok-push.ensures.items in
    record {
      many = ap length grown ∙ omega (arith, length-append before (owner ∷ []), inv.many);
      each = λ id other at. elim (push_cases before id owner other (rw grown at at)) [
        | inl p ↦ (
            let place : c.in-Some.id ≡ id = omega (arith, p.0, inv.many, c.in-Some.ensures.value) in
            subst (λ (o : Owner). IsOwner c.args.setup.now id n o) (sym p.1)
            (subst (λ (i : ℕ). IsOwner c.args.setup.now i n owner) place c.owner_of.ensures))
        | inr p ↦ inv.each id other p
      ];
    }

pub returns : goal.returns
returns c = record {
  many = omega (arith, c.loop-number.invariant.many, c.loop-number-test.false);
  known = c.in_ok-known.ensures;
  functional = c.in_ok-functional.ensures;
  each = c.loop-number.invariant.each;
}
