use Rattle.std.proofs.Common.{refl, sym, arith}
use Rattle.diag_world.proofs.Lazy.{caught, seen_caught}
use Rattle.diag_world.proofs.lazy_port.LazyPort.catch_up.Goals as goal

pub returns-then-self-passed-clause-port : goal.returns-then-self-passed-clause-port
returns-then-self-passed-clause-port c =
    let same = c.if-self-passed.true in
    sym (seen_caught c.args.passed c.args.self.now (omega (arith, same)) c.requires.lazy.fits)

pub returns-clause-lazy : goal.returns-clause-lazy
returns-clause-lazy c = caught c.args.passed c.args.self.now _ (omega (arith, c.ranges.passed.fits)) c.requires.lazy c.advance_quietly.ensures.later refl
