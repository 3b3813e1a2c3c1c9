use Rattle.std.proofs.Common.{rules}
use Rattle.diag_store.proofs.dids.Dids.get.Goals as goal

pub returns-clause-same : goal.returns-clause-same
returns-clause-same c = search rules
