use Rattle.std.proofs.Common.{rules, arith}
use Rattle.std.proofs.lemmas.Simd.{Each1-all, Each2-splat}
use Rattle.diag_can.proofs.Sixteen.{digits_read}
use Rattle.diag_can.proofs.lanes.eight_of_digits.Goals as goal

pub nonzero_rem-values : goal.nonzero_rem-values
nonzero_rem-values c = Each2-splat _ c.args.text.now 16 16 (Each1-all _ (λ a. omega arith) _)

pub returns : goal.returns
returns c = digits_read c.args.text.now c.told-text (search rules)
