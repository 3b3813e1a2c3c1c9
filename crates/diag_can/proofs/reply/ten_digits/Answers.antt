use Rattle.std.proofs.Common.{◌^◌, ◌/◌, ◌%◌, sym, arith}
use Rattle.diag_can.proofs.Decimals.{four_by_pairs, ten_by_pairs}
use Rattle.diag_can.proofs.reply.ten_digits.Goals as goal

pub returns : goal.returns
returns c =
    let n = c.args.number in
    let middle = four_by_pairs (n % 10 ^ 8 / 10 ^ 4) (omega arith) in
    let last = four_by_pairs (n % 10 ^ 8 % 10 ^ 4) (omega arith) in
    rw (c.decimals.ensures, c.four_digits.ensures, c.four_digits-2.ensures, middle, last)
    (sym (ten_by_pairs n c.requires (omega (arith, c.ranges.number.fits))))
