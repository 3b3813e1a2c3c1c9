use Rattle.std.proofs.Common.{◌-◌, arith}
use Rattle.diag_port.proofs.Quiet.{rest_later, some_quiet}
use Rattle.diag_world.specs.LazyPort.{caught_up}
use Rattle.diag_world.proofs.lazy_port.LazyPort.quiet.Goals as goal

pub returns-clause-some : goal.returns-clause-some
returns-clause-some c =
    let lazy = c.args.self.now in
    let rest = rest_later (c.args.passed - lazy.taken) lazy.port c.requires.lazy.rest c.requires.lazy.idle in
    omega (arith, c.quiet_after.ensures.is, some_quiet (caught_up c.args.passed lazy) rest)
