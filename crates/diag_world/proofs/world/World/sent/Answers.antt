use Rattle.std.proofs.Common.{ap, sym, ◌∙◌}
use Rattle.diag_setup.specs.Setup.{link_of}
use Rattle.diag_desk.specs.Timed.{own_timed, timed}
use Rattle.diag_port.specs.Late.{pace_of}
use Rattle.diag_port.specs.Releasing.{drawn}
use Rattle.diag_world.specs.Weaving.{items_of}
use Rattle.diag_world.proofs.Standing.{frames_of}
use Rattle.diag_world.proofs.world.World.sent.Goals as goal

pub returns : goal.returns
returns c setup M h =
    let who = c.args.who in
    let desk = c.args.self.now.desk in
    c.sent.ensures ∙ (frames_of c.self.inside.desk c.self.inside.channels.items c.index-index.result c.self.view_is c.requires.in_setup
    c.index-index.ensures.from_one c.index.ensures setup M h
    ∙ ap (λ o. drawn (link_of setup who) (pace_of setup) (items_of M who) (own_timed (timed o desk.journal) who)) (sym h.opening))
