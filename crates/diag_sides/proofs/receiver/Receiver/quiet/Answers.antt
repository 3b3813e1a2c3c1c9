use Rattle.std.proofs.Common.{rules}
use Rattle.diag_sides.proofs.receiver.Receiver.quiet.Goals as goal

pub returns-in-Some : goal.returns-in-Some
returns-in-Some c = search rules
