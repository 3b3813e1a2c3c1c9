use Rattle.std.proofs.Common.{not, refl, arith}
use Rattle.std.proofs.lemmas.Simd.{zip2_splat, length-chunk}
use lib.Lanes.{chunk}
use Rattle.diag_can.specs.Log.{is_feed}
use Rattle.diag_can.proofs.LaneLemmas.{run_in}
use Rattle.diag_can.proofs.lanes.line_run.Goals as goal

pub returns : goal.returns
returns c =
    let v = chunk 0 64 c.args.text.now in
    let long = length-chunk 0 64 c.args.text.now c.requires in
    run_in (λ x. not (is_feed x)) c.args.text.now 0 64 _ _ c.requires (omega arith) c.type_inv.text c.first_set.ensures _
    (zip2_splat _ v 64 10 long) refl
