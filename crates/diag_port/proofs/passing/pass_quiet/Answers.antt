use Rattle.std.proofs.Common.{◌≡◌, ◌+◌, ℕ, [], min, ap, subst, arith}
use Rattle.diag_tp.specs.Link.{last_tick, quiet_later}
use Rattle.diag_port.specs.Port.{Passed, port_of}
use Rattle.diag_port.proofs.passing.pass_quiet.Goals as goal

pub returns-clause-passed : goal.returns-clause-passed
returns-clause-passed c =
    let same : c.from.result ≡ c.args.count = omega (arith, c.from.ensures, c.get.ensures.value) in
    subst (λ (n : ℕ). Passed (port_of c.args.port.now) (port_of c.advance_quietly.new.self) n []) same c.advance_quietly.ensures.passed

pub returns-clause-time : goal.returns-clause-time
unfolding quiet_later
returns-clause-time c =
    let now : c.advance_quietly.new.self.link.state.now ≡ min (c.args.port.now.link.state.now + c.from.result) last_tick =
    ap (λ p. p.link.state.now) c.advance_quietly.ensures.later in
    omega (arith, now, c.from.ensures, c.get.ensures.value)
