use Rattle.std.proofs.Common.{rules, ap, ◌∙◌}
use Rattle.diag_ecu.specs.declared.effect.Decision.{Decision}
use Rattle.diag_ecu.proofs.Delays.{none_later}
use Rattle.diag_world.proofs.server.AnsweringTakeSteps.take_request.Goals as goal

pub returns-clause-took : goal.returns-clause-took
returns-clause-took g c = search rules

pub returns-clause-at_once : goal.returns-clause-at_once
returns-clause-at_once g c h =
    ap (λ (d : Decision). d.after_ms) c.in_ok-decided.ensures.decision ∙ none_later c.args.self.now.ecu.now c.args.who c.bytes-bytes.result.now h
