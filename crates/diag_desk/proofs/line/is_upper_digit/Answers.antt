use Rattle.std.proofs.Common.{◌<◌}
use Rattle.diag_desk.proofs.HexText.{upper_small}
use Rattle.diag_desk.proofs.line.is_upper_digit.Goals as goal

pub returns : goal.returns
returns c =
    let byte : c.args.c < 256 = c.ranges.c.fits in
    rw c.upper_value.ensures (upper_small c.args.c byte)
