use Rattle.std.proofs.Common.{rules}
use Rattle.diag_sides.proofs.receiver.Receiver.pass.Goals as goal

pub returns-then-from : goal.returns-then-from
returns-then-from c = search rules
