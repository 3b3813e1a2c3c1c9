use Rattle.std.proofs.Common.{◌≡◌, ◌+◌, ◌∷◌, ℕ, List, [], Some, length, ap, subst, sym, ◌∙◌}
use Rattle.std.proofs.lemmas.List.{length-append}
use Rattle.std.specs.Prelude.{slice_get}
use Rattle.diag_bus.specs.Comparing.{Compares}
use Rattle.diag_bus.specs.declared.comparing.Comparison.{Comparison}
use Rattle.diag_bus.proofs.Recordings.{holds_more}
use Rattle.diag_bus.proofs.comparing.no_frames.Goals as goal

pub loop-made-preserved : goal.loop-made-preserved
loop-made-preserved c =
    let before = c.loop-made.testers.items in
    let inv = c.loop-made.invariant in
    let grown = c.in_ok-push.ensures.items in
    record {
      many = ap length grown ∙ (length-append before (c.new.result ∷ []) ∙ ap (λ n. n + 1) inv.many);
      each = subst (λ (xs : List Comparison). (i : ℕ) (own : Comparison) → slice_get xs i ≡ Some own → Compares own [] []) (sym grown)
          (holds_more (λ own. Compares own [] []) before c.new.result inv.each c.new.ensures);
    }
