use Rattle.std.proofs.Common.{rules}
use Rattle.std.proofs.lemmas.Result.{on_ok_weaker}
use Rattle.diag_port.specs.Port.{port_of}
use Rattle.diag_world.proofs.Tester.{tester_took}
use Rattle.diag_world.proofs.server.take_at.Goals as goal

pub returns-clause-took : goal.returns-clause-took
returns-clause-took g c =
    let took = on_ok_weaker c.take.result (λ took.
    tester_took g.K.Keeper.keeps (λ a. a.ecu.now) (λ a. a.keeper.now) _ _ (port_of c.args.port.now) (port_of c.take.new.port) c.args.who
    c.args.event.now c.args.out.now.items c.take.new.out.items c.requires.early took) c.take.ensures.took in
    search (rules, took)
