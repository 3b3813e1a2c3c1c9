use Rattle.std.proofs.Common.{◌++◌, Some, ap, subst, ◌∙◌}
use Rattle.diag_port.specs.Port.{port_of}
use Rattle.diag_port.specs.Standing.{timed_ticks}
use Rattle.diag_port.proofs.Standing.{ticks_took}
use Rattle.diag_port.proofs.taking.take_ticks.Goals as goal

pub returns-clause-took : goal.returns-clause-took
returns-clause-took g c =
    let who = c.args.who in
    let n = c.args.count in
    let passed = c.pass.ensures.passed in
    record {
      asked = Some (timed_ticks who n);
      kept = subst (λ now. g.T.TakeSteps.takes c.args.taker.now now (timed_ticks who n) c.take_ticks.new.self) c.now.ensures.state
          c.in_ok-take_ticks.ensures.took;
      sent = record {
        more = passed.more;
        grown = passed.grown ∙ ap (λ w. w ++ passed.more) c.in_ok-make_tick_room.ensures.out;
        holds = ticks_took (port_of c.args.port.now) (port_of c.pass.new.port) who n passed.more c.pass.ensures.most c.pass.ensures.time
            c.pass.ensures.pace passed.holds;
      };
    }
