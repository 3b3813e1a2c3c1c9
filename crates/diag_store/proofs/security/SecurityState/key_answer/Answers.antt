use Rattle.std.proofs.Common.{rules}
use Rattle.diag_store.proofs.security.SecurityState.key_answer.Goals as goal

pub returns-then-from : goal.returns-then-from
returns-then-from c = search rules
