use Rattle.std.proofs.Common.{◌≡◌, ◌+◌, ◌++◌, ◌∷◌, [], inl, inr, length, length-append, refl, ap, subst, sym, ◌∙◌, arith}
use Rattle.diag_world.proofs.Worlds.{push_cases}
use Rattle.diag_compare.specs.Hearing.{unit_side}
use Rattle.diag_judge.specs.declared.tester.Tester.{Tester}
use Rattle.diag_comparing.specs.Keeping.{IsTester}
use Rattle.diag_comparing.proofs.Lines.{no_stamps}
use Rattle.diag_comparing.proofs.Takings.{new_tester}
use Rattle.diag_comparing.proofs.exchange_lines.ExchangeLines.set_up.Goals as goal

pub loop-index-preserved : goal.loop-index-preserved
loop-index-preserved c =
    let inv = c.loop-index.invariant in
    let before = c.loop-index.testers.items in
    let setup = c.args.setup.now in
    let own = c.new.result in
    let grown : c.push.new.self.items ≡ before ++ own ∷ [] = c.in_ok-push.ensures.items in
    let who = c.who-who.ensures in
    record {
      many = ap length grown ∙ omega (arith, length-append before (own ∷ []), inv.many);
      each = λ i tester at. elim (push_cases before i own tester (rw grown at at)) [
        | inl p ↦ (
            let place : c.who-who.result ≡ i + 1 = omega (arith, p.0, inv.many, who) in
            subst (λ (x : Tester). IsTester setup [] [] (i + 1) x) (sym p.1)
            (new_tester setup (i + 1) own c.new.ensures.judges c.new.ensures.entered (c.new.ensures.link_setup ∙ c.unit_side.ensures ∙ ap (unit_side setup) place)))
        | inr p ↦ inv.each i tester p
      ];
    }

pub returns-clause-taken : goal.returns-clause-taken
returns-clause-taken c = record {
  count = refl;
  stamps = no_stamps c.args.setup.now c.new-self.result c.new-self.ensures;
  many = omega (arith, c.loop-index.invariant.many, c.loop-index-test.false, c.loop-index.auto.index-end, c.testers-index-end.ensures.same);
  each = c.loop-index.invariant.each;
}

pub returns-clause-idle : goal.returns-clause-idle
returns-clause-idle c = λ i own at outside.
    let is = c.loop-index.invariant.each i own at in
    (is.entered, is.judges.listens.stands.is_coming)
