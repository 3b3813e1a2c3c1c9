use Rattle.std.proofs.Common.{ap, ◌∙◌}
use Rattle.diag_ecu.specs.State.{opening}
use Rattle.diag_desk.specs.Legal.{after}
use Rattle.diag_bus.specs.Events.{events_of}
use Rattle.diag_bus.proofs.Lines.{run_is}
use Rattle.diag_bus.proofs.bus.Bus.ecu.Goals as goal

pub returns : goal.returns
returns g c = λ lines h.
    let setup = c.args.self.now.setup in
    c.ecu.ensures
    ∙ (ap (λ s. s.server.ecu) c.self.view_is
    ∙ (h.stands.serves.ecu
    ∙ ap (after (opening setup)) (run_is setup c.args.self.now.server (events_of setup lines) h.stands.journal h.stands.serves)))
