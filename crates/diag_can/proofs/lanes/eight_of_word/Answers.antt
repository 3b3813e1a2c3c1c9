use Rattle.std.proofs.Common.{refl, arith}
use Rattle.std.proofs.lemmas.Simd.{zip2_splat, length-chunk}
use lib.Lanes.{chunk}
use Rattle.diag_can.specs.Stamp.{is_mark}
use Rattle.diag_can.proofs.LaneLemmas.{run_in}
use Rattle.diag_can.proofs.lanes.eight_of_word.Goals as goal

pub returns : goal.returns
returns c =
    let v = chunk c.args.at 8 c.args.text.now in
    let long = length-chunk c.args.at 8 c.args.text.now c.requires in
    run_in is_mark c.args.text.now c.args.at 8 _ _ c.requires (omega arith) c.type_inv.text c.first_set.ensures _
    (zip2_splat _ v 8 32 long) refl
