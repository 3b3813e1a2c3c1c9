use Rattle.std.proofs.Common.{rules}
use Rattle.diag_sides.proofs.receiver.Receiving.bytes.Goals as goal

pub returns-in-Staged-clause-same : goal.returns-in-Staged-clause-same
returns-in-Staged-clause-same c = search rules
