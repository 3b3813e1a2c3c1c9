use Rattle.std.proofs.Common.{ℕ, leb, cond, bit_and, refl, arith}
use Rattle.std.proofs.lemmas.Simd.{splat_is_map, zip2_splat, length-chunk}
use lib.Lanes.{chunk}
use Rattle.hex.specs.Hex.{is_hex_digit}
use Rattle.diag_can.proofs.LaneLemmas.{joined, run_in}
use Rattle.diag_can.proofs.lanes.hex_of_sixteen.Goals as goal

pub returns : goal.returns
returns c =
    let text = c.args.text.now in
    let v = chunk c.args.at 16 text in
    let long = length-chunk c.args.at 16 text c.requires in
    run_in is_hex_digit text c.args.at 16 _ _ c.requires (omega arith) c.type_inv.text c.first_set.ensures _
    (joined bit_and _ _ v (joined (λ a b. cond (leb a b) 255 0) _ _ v (splat_is_map v 16 10 long) (zip2_splat {Y = ℕ} _ v 16 48 long))
    (joined (λ a b. cond (leb a b) 255 0) _ _ v (splat_is_map v 16 6 long) (joined _ _ _ v (zip2_splat {Y = ℕ} _ v 16 32 long) (splat_is_map v 16 97 long)))) refl
