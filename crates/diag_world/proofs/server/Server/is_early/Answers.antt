use Rattle.std.proofs.Common.{refl}
use Rattle.diag_world.specs.LazyPort.{caught_up}
use Rattle.diag_world.proofs.Tester.{early_here, early_there, lazy_at, port_there}
use Rattle.diag_world.proofs.server.Server.is_early.Goals as goal

pub is_early-requires : goal.is_early-requires
is_early-requires c =
    record {
      lazy = c.self.invariant _ _ (lazy_at c.self.inside.ports.items c.self.inside.passed _ c.self.view_is c.requires.in_setup
          c.index-index.ensures.from_one c.index.ensures);
    }

pub returns : goal.returns
returns c =
    let here = port_there c.self.inside.ports.items c.self.inside.passed _ c.self.view_is c.requires.in_setup c.index-index.ensures.from_one
    c.index.ensures (caught_up c.self.inside.passed c.index.result.now) refl in
    (λ is. early_there here (c.is_early.ensures.0 is), λ early. c.is_early.ensures.1 (early_here here early))
