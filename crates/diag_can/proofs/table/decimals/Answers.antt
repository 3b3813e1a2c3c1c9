use Rattle.diag_can.proofs.Decimals.{decimals_at}
use Rattle.diag_can.proofs.table.decimals.Goals as goal

pub returns : goal.returns
returns c = decimals_at c.args.number c.requires
