use Rattle.diag_expect.proofs.Values.{values}
use Rattle.diag_expect.proofs.laws.values_law.Goals as goal

pub returns : goal.returns
returns c = values
