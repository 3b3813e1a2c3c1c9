use Rattle.std.proofs.Common.{rules}
use Rattle.diag_sides.proofs.receiver.Receiver.pass_quietly.Goals as goal

pub returns-clause-partial : goal.returns-clause-partial
returns-clause-partial c = search rules
