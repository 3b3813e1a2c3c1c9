use Rattle.std.proofs.Common.{◌∙◌}
use Rattle.diag_setup.proofs.SortLemmas.{others_decide}
use Rattle.diag_setup.proofs.keyed.has_equal.Goals as goal

pub loop-rest-preserved : goal.loop-rest-preserved
loop-rest-preserved c =
    let rest = others_decide c.loop-rest.rest.now c.loop-rest.invariant.rises c.in-len1-up-tail.len_at_least c.if-first-second.false in
    record { rises = rest.0; same = rest.1 ∙ c.loop-rest.invariant.same }
