use Rattle.std.proofs.Common.{◌≡◌, ◌∷◌, ℕ, ◌+◌, List, take, sym, ap, ◌∙◌, subst, Some, arith, rules}
use Rattle.std.proofs.lemmas.Bool.{ne_eqb}
use Rattle.diag_can.specs.Line.{tick_count, ticks_of}
use Rattle.diag_can.proofs.TickFronts.{begins, count_said}
use Rattle.diag_can.proofs.front.count_front.Goals as goal

pub returns-clause-is : goal.returns-clause-is
returns-clause-is c =
    let digits = c.in-Some.digits.now in
    let run = c.number_run-run.result.0 in
    let text : c.args.text.now ≡ 32 ∷ digits = begins 32 c.args.text.now digits (search rules) in
    let value = c.number_run-run.ensures.value (omega (arith, c.if-run-gt12.false)) in
    subst (λ (t : List ℕ). tick_count (take (run + 1) t) ≡ Some c.in_ok-ticks_of.field-0) (sym text)
    (count_said digits run c.in_ok-ticks_of.field-0 c.number_run-run.ensures.count (omega (arith, c.if-run-lt1.false)) (ne_eqb _ _ c.if-digits-eq48.false)
    (ap ticks_of (sym value) ∙ sym c.ticks_of.ensures ∙ c.in_ok-ticks_of.was))
