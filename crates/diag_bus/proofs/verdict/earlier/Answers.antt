use Rattle.std.proofs.Common.{rules}
use Rattle.diag_bus.proofs.verdict.earlier.Goals as goal

pub returns-then-other-first : goal.returns-then-other-first
returns-then-other-first c = search rules

pub returns-else-other-first : goal.returns-else-other-first
returns-else-other-first c = search rules
