use Rattle.std.proofs.Common.{rules}
use Rattle.diag_sides.proofs.receiver.Receiving.is_completed_by.Goals as goal

pub returns-then-from-clause-is : goal.returns-then-from-clause-is
returns-then-from-clause-is c = search rules

pub returns-then-from-clause-fits : goal.returns-then-from-clause-fits
returns-then-from-clause-fits c = search rules
