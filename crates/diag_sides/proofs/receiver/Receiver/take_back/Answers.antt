use Rattle.std.proofs.Common.{rules}
use Rattle.diag_sides.proofs.receiver.Receiver.take_back.Goals as goal

pub returns-then-capacity-clause-kept : goal.returns-then-capacity-clause-kept
returns-then-capacity-clause-kept c = search rules

pub returns-else-capacity-clause-taken : goal.returns-else-capacity-clause-taken
returns-else-capacity-clause-taken c = search rules
