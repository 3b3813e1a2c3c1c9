use Rattle.std.proofs.Common.{rules}
use Rattle.diag_sides.proofs.receiver.Receiver.begin.Goals as goal

pub returns : goal.returns
returns c = search rules
