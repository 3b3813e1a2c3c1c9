use Rattle.std.proofs.Common.{◌≡◌, refl, subst, sym}
use Rattle.std.specs.Prelude.{IfSome}
use Rattle.diag_port.specs.declared.port.Port.{Port}
use Rattle.diag_port.specs.Port.{port_of, port_quiet}
use Rattle.diag_world.specs.LazyPort.{caught_up}
use Rattle.diag_world.proofs.Tester.{lazy_at, port_there, seen_there}
use Rattle.diag_world.proofs.server.Server.quiet_at.Goals as goal

pub quiet-requires : goal.quiet-requires
quiet-requires c =
    record {
      lazy = c.self.invariant _ _ (lazy_at c.self.inside.ports.items c.self.inside.passed _ c.self.view_is c.requires.in_setup
          c.index-index.ensures.from_one c.index.ensures);
    }

pub returns-clause-is : goal.returns-clause-is
returns-clause-is c =
    let here = port_there c.self.inside.ports.items c.self.inside.passed _ c.self.view_is c.requires.in_setup c.index-index.ensures.from_one
    c.index.ensures (caught_up c.self.inside.passed c.index.result.now) refl in
    subst (λ o. IfSome o (λ (port : Port). c.quiet.result ≡ port_quiet (port_of port))) (sym (seen_there here)) c.quiet.ensures.is
