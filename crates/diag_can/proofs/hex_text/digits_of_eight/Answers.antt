use Rattle.std.proofs.Common.{rules, arith}
use Rattle.std.proofs.lemmas.Simd.{zip2_splat, Each1-all, Each2-splat}
use Rattle.diag_can.proofs.Hex.{eight_digits}
use Rattle.diag_can.proofs.hex_text.digits_of_eight.Goals as goal

pub nonzero_div-high : goal.nonzero_div-high
nonzero_div-high c = Each2-splat _ c.args.bytes.now 8 16 (Each1-all _ (λ a. omega arith) _)

pub nonzero_rem-low : goal.nonzero_rem-low
nonzero_rem-low c = Each2-splat _ c.args.bytes.now 8 16 (Each1-all _ (λ a. omega arith) _)

pub swizzle : goal.swizzle
swizzle c =
    let v = c.args.bytes.now in
    (eight_digits v _ _ c.told-bytes (search rules) (zip2_splat _ v 8 16 c.told-bytes) (zip2_splat _ v 8 16 c.told-bytes)).1

pub returns : goal.returns
returns c =
    let v = c.args.bytes.now in
    (eight_digits v _ _ c.told-bytes (search rules) (zip2_splat _ v 8 16 c.told-bytes) (zip2_splat _ v 8 16 c.told-bytes)).0
