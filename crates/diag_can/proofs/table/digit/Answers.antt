use Rattle.std.proofs.Common.{◌<◌, ◌∙◌}
use Rattle.diag_can.proofs.Pairs.{values_at, weight-most}
use Rattle.diag_can.proofs.table.digit.Goals as goal

pub returns-clause-value : goal.returns-clause-value
returns-clause-value c =
    let byte : c.args.c < 256 = c.ranges.c.fits in
    let from = c.from.ensures in
    c.from-2.ensures ∙ rw from (values_at c.args.c byte)

pub returns-clause-most : goal.returns-clause-most
returns-clause-most c =
    let byte : c.args.c < 256 = c.ranges.c.fits in
    let from = c.from.ensures in
    let is = values_at c.args.c byte in
    let most = weight-most c.args.c byte in
    rw (c.from-2.ensures, from, is) most
