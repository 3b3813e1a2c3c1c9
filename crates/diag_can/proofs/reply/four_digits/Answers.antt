use Rattle.std.proofs.Common.{sym}
use Rattle.diag_can.proofs.Decimals.{four_by_pairs}
use Rattle.diag_can.proofs.reply.four_digits.Goals as goal

pub returns : goal.returns
returns c = rw (c.decimals.ensures, c.decimals-2.ensures) (sym (four_by_pairs c.args.number c.requires))
