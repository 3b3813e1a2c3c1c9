use Rattle.std.proofs.Common.{sym}
use Rattle.diag_can.proofs.Decimals.{three_by_pairs}
use Rattle.diag_can.proofs.reply.three_digits.Goals as goal

pub returns : goal.returns
returns c = rw c.decimals.ensures (sym (three_by_pairs c.args.number c.requires))
