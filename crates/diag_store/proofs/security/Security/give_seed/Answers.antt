use Rattle.diag_store.proofs.SecurityLemmas.{seed-keeps}
use Rattle.diag_store.proofs.security.Security.give_seed.Goals as goal

pub invariant_of-self : goal.invariant_of-self
invariant_of-self c = rw (c.give_seed.ensures) (seed-keeps c.self.inside.state c.args.who c.args.sub c.self.invariant)
