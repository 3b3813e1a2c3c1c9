use Rattle.std.proofs.Common.{◌≡◌, ◌≤◌, ℕ, IsTrue, subst, arith}
use Rattle.std.specs.Prelude.{◌↔◌}
use Rattle.diag_tp.specs.Link.{quiet_later}
use Rattle.diag_world.specs.LazyPort.{caught_up}
use Rattle.diag_world.specs.Server.{closing_time}
use Rattle.diag_world.proofs.lazy_port.LazyPort.is_early.Goals as goal

pub returns : goal.returns
unfolding quiet_later
returns c =
    let told : c.saturating_add.result ≡ (caught_up c.args.passed c.args.self.now).link.state.now =
    omega (arith, c.saturating_add.ensures, c.now.ensures) in
    subst (λ (n : ℕ). IsTrue c.is_in_time.result ↔ n ≤ closing_time) told c.is_in_time.ensures
