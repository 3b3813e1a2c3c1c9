use Rattle.std.proofs.Common.{rules}
use Rattle.diag_sides.proofs.sending.Sending.tick.Goals as goal

pub returns-then-ticks-count-2-clause-fields : goal.returns-then-ticks-count-2-clause-fields
returns-then-ticks-count-2-clause-fields c = search rules
