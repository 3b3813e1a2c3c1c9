use Rattle.std.proofs.Common.{◌<◌}
use Rattle.diag_can.proofs.Hex.{digits_at}
use Rattle.diag_can.proofs.table.digits.Goals as goal

pub returns : goal.returns
returns c =
    let byte : c.args.byte < 256 = c.ranges.byte.fits in
    let from = c.from.ensures in
    rw from (digits_at c.args.byte byte)
