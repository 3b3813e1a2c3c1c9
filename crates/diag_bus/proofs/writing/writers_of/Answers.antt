use Rattle.std.proofs.Common.{◌≡◌, ℕ, ◌+◌, List, Option, ◌∷◌, ◌++◌, [], length, ap, ap₂, ◌∙◌, arith, inl, inr, length-append}
use Rattle.diag_world.proofs.Worlds.{push_cases}
use Rattle.diag_bus.specs.Writing.{writer_of}
use Rattle.diag_bus.proofs.writing.writers_of.Goals as goal

pub loop-index-preserved : goal.loop-index-preserved
loop-index-preserved c =
    let inv = c.loop-index.invariant in
    let before = c.loop-index.writers.items in
    let setup = c.args.setup.now in
    let grown : c.push.new.self.items ≡ before ++ c.in_ok-writer.writer ∷ [] = c.in_ok-push.ensures.items in
    let who = c.who-who.ensures in
    record {
      many = ap length grown ∙ omega (arith, length-append before (c.in_ok-writer.writer ∷ []), inv.many);
      each = λ i writer at. elim (push_cases before i c.in_ok-writer.writer writer (rw grown at at)) [
        | inl p ↦ (
            let place : c.who-who.result ≡ i + 1 = omega (arith, p.0, inv.many, who) in
            p.1 ∙ (c.in_ok-writer.ensures ∙ ap₂ (λ (name : List ℕ) (flags : Option ℕ). record { name = name; flags = flags }) c.name-name.ensures c.flags-flags.ensures.same
            ∙ ap (writer_of setup) place))
        | inr p ↦ inv.each i writer p
      ];
    }

pub returns : goal.returns
returns c = record {
  many = omega (arith, c.loop-index.invariant.many, c.loop-index-test.false, c.loop-index.auto.index-end, c.testers-index-end.ensures.same);
  each = c.loop-index.invariant.each;
}
