use Rattle.std.proofs.Common.{◌≡◌, ℕ, ◌+◌, ◌*◌, ◌%◌, ◌^◌, sym, ap, ◌∙◌, arith, length}
use Rattle.diag_can.proofs.Digits.{run-all, run-count, run-more, run-none}
use Rattle.diag_can.proofs.stamp.number_run.Goals as goal

pub loop-count-init : goal.loop-count-init
loop-count-init c = run-none c.args.text.now

pub loop-count-preserved : goal.loop-count-preserved
loop-count-preserved c =
    run-more c.args.text.now c.loop-count.count c.loop-count.value _ c.loop-count-test.true (sym c.is_digit.ensures ∙ c.if-not-is_digit.false)
    (ap (λ (d : ℕ). (c.loop-count.value * 10 % 2 ^ 64 + d) % 2 ^ 64) c.from.ensures) c.loop-count.invariant

pub returns-then-not-is_digit-clause-count : goal.returns-then-not-is_digit-clause-count
returns-then-not-is_digit-clause-count c =
    run-count c.args.text.now c.loop-count.count c.loop-count.value c.loop-count-test.true (sym c.is_digit.ensures ∙ c.if-not-is_digit.true)
    c.loop-count.invariant

pub returns-clause-count : goal.returns-clause-count
returns-clause-count c =
    let end : c.loop-count.count ≡ length c.args.text.now = omega (arith, c.loop-count-test.false) in
    run-all c.args.text.now c.loop-count.value (rw end at c.loop-count.invariant)
