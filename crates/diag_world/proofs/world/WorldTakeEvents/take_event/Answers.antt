use Rattle.diag_setup.specs.Setup.{link_of}
use Rattle.diag_world.proofs.Headlines.{too_many}
use Rattle.diag_world.proofs.world.WorldTakeEvents.take_event.Goals as goal

pub returns-clause-full : goal.returns-clause-full
returns-clause-full c = λ is setup M h.
    let full = c.event.ensures.full is in
    too_many (link_of setup) c.args.self.now.desk.journal M c.args.who c.args.event.now h.serves.run full.0 (full.1 setup M h)
