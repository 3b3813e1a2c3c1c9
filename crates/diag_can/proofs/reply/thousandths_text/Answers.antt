use Rattle.std.proofs.Common.{refl, arith}
use Rattle.diag_can.proofs.Decimals.{zero_filled-digits}
use Rattle.diag_can.proofs.reply.thousandths_text.Goals as goal

pub returns : goal.returns
returns c =
    let digits = zero_filled-digits 2 c.args.thousandths c.requires (omega arith) in
    rw (c.three_digits.ensures, digits) refl
