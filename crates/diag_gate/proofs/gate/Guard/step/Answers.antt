use Rattle.std.proofs.Common.{rules}
use Rattle.diag_gate.proofs.gate.Guard.step.Goals as goal

pub returns-clause-made : goal.returns-clause-made
returns-clause-made c = search rules

pub returns-clause-behind : goal.returns-clause-behind
returns-clause-behind c = search rules
