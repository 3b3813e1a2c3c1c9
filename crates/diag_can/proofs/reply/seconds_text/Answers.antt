use Rattle.std.proofs.Common.{refl, arith}
use Rattle.diag_can.proofs.Decimals.{zero_filled-digits}
use Rattle.diag_can.proofs.reply.seconds_text.Goals as goal

pub returns : goal.returns
returns c =
    let digits = zero_filled-digits 9 c.args.seconds c.requires (omega (arith, c.ranges.seconds.fits)) in
    rw (c.ten_digits.ensures, digits) refl
