use Rattle.std.proofs.Common.{rules}
use Rattle.diag_sides.proofs.receiver.Receiver.take.Goals as goal

pub returns-in-Single-clause-partial : goal.returns-in-Single-clause-partial
returns-in-Single-clause-partial c = search rules
