use Rattle.std.proofs.Common.{◌≡◌, ◌+◌, ◌∷◌, ◌++◌, [], length, ap, subst, sym, ◌∙◌, arith, inl, inr, length-append}
use Rattle.diag_world.proofs.Worlds.{push_cases}
use Rattle.diag_bus.specs.Writing.{writer_of}
use Rattle.diag_run.specs.Playing.{Replies}
use Rattle.diag_run.proofs.replies.unwritten.Goals as goal

pub loop-index-preserved : goal.loop-index-preserved
loop-index-preserved c =
    let inv = c.loop-index.invariant in
    let before = c.loop-index.lines.items in
    let setup = c.args.setup.now in
    let added = c.in_ok-tester.tester in
    let grown : c.push.new.self.items ≡ before ++ added ∷ [] = c.in_ok-push.ensures.items in
    let who = c.who-who.ensures in
    record {
      many = ap length grown ∙ omega (arith, length-append before (added ∷ []), inv.many);
      none = λ i tester at. elim (push_cases before i added tester (rw grown at at)) [
        | inl p ↦ (
            let place : c.who-who.result ≡ i + 1 = omega (arith, p.0, inv.many, who) in
            let own : Replies (writer_of setup (i + 1)) added [] =
            subst (λ t. Replies (writer_of setup t) added []) place c.in_ok-tester.ensures in
            subst (λ t. Replies (writer_of setup (i + 1)) t []) (sym p.1) own)
        | inr p ↦ inv.none i tester p
      ];
    }
