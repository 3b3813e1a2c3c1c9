use Rattle.std.proofs.Common.{rules, ap, ◌∙◌}
use Rattle.diag_gate.specs.Seats.{SeatView}
use Rattle.diag_ecu.specs.Respond.{may_delay}
use Rattle.diag_gate.proofs.Delays.{seat_at_once}
use Rattle.diag_gate.proofs.door.GateDoorDoor.step.Goals as goal

pub returns-clause-made : goal.returns-clause-made
returns-clause-made g c = search rules

pub returns-clause-given : goal.returns-clause-given
returns-clause-given g c = search rules

pub returns-clause-at_once : goal.returns-clause-at_once
returns-clause-at_once g c = λ none. seat_at_once c.self.inside.seat c.step.new.seat c.args.step.now c.step.result c.step.ensures.made
    (ap (λ (s : SeatView). may_delay s.opening) c.self.view_is ∙ none)
