use Rattle.std.proofs.Common.{◌<◌, ◌∙◌}
use Rattle.diag_desk.proofs.UsualLemmas.{values_at}
use Rattle.diag_desk.proofs.table.upper_value.Goals as goal

pub returns : goal.returns
returns c =
    let byte : c.args.c < 256 = c.ranges.c.fits in
    let from = c.from.ensures in
    c.from-2.ensures ∙ rw from (values_at c.args.c byte)
