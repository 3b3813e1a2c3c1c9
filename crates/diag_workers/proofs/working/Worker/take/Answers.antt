use Rattle.std.proofs.Common.{rules}
use Rattle.std.proofs.lemmas.Result.{on_ok_weaker}
use Rattle.diag_world.specs.Channel.{channel_of}
use Rattle.diag_workers.proofs.Recording.{worker_took}
use Rattle.diag_workers.proofs.working.Worker.take.Goals as goal

pub returns-clause-took : goal.returns-clause-took
returns-clause-took g c =
    let took = on_ok_weaker c.take.result (λ took. worker_took g.K.Keep.keeps g.D.Door.given (λ a. a.entries.now) (λ a. a.door.now) _ c.take.new.taker
    c.who-who.result (g.D.Door.tester c.args.door.now) (channel_of c.args.self.now.channel) (channel_of c.take.new.self) c.args.event.now c.who-who.ensures
    took) c.take.ensures.took in
    search rules
