use Rattle.std.proofs.Common.{arith}
use Rattle.diag_desk.proofs.UsualLemmas.{pair_spelled}
use Rattle.diag_desk.proofs.table.pair_value.Goals as goal

pub returns : goal.returns
returns c = λ byte.
    pair_spelled c.args.high c.args.low _ c.ranges.high.fits c.ranges.low.fits (omega (arith, c.upper_value.ensures, c.upper_value-2.ensures)) byte
