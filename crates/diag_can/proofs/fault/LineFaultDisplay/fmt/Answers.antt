use Rattle.std.proofs.Common.{rules}
use Rattle.diag_can.proofs.fault.LineFaultDisplay.fmt.Goals as goal

pub returns-in-BadTick-clause-writes : goal.returns-in-BadTick-clause-writes
returns-in-BadTick-clause-writes c = search rules
