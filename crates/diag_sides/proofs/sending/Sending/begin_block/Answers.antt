use Rattle.std.proofs.Common.{rules}
use Rattle.diag_sides.proofs.sending.Sending.begin_block.Goals as goal

pub returns-then-gap-eq0-clause-fields : goal.returns-then-gap-eq0-clause-fields
returns-then-gap-eq0-clause-fields c = search rules

pub returns-else-gap-eq0-clause-fields : goal.returns-else-gap-eq0-clause-fields
returns-else-gap-eq0-clause-fields c = search rules
