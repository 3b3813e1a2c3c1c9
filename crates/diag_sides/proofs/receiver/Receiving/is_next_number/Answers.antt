use Rattle.std.proofs.Common.{rules}
use Rattle.diag_sides.proofs.receiver.Receiving.is_next_number.Goals as goal

pub returns : goal.returns
returns c = search rules
