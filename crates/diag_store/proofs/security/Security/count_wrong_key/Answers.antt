use Rattle.diag_store.proofs.SecurityLemmas.{wrong_key-keeps}
use Rattle.diag_store.proofs.security.Security.count_wrong_key.Goals as goal

pub invariant_of-self : goal.invariant_of-self
invariant_of-self c = rw (c.count_wrong_key.ensures) (wrong_key-keeps c.self.inside.state c.args.who c.self.invariant)
