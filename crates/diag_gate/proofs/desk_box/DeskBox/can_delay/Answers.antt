use Rattle.std.proofs.Common.{◌≡◌, ◌∙◌, ap, rules}
use Rattle.diag_ecu.specs.Respond.{may_delay}
use Rattle.diag_desk.specs.Legal.{after}
use Rattle.diag_desk.proofs.Delays.{run_keeps}
use Rattle.diag_gate.proofs.desk_box.DeskBox.can_delay.Goals as goal

pub returns : goal.returns
returns c =
    let made : c.ecu.result.now ≡ after c.args.self.now.opening c.args.self.now.journal = search rules in
    c.can_delay.ensures ∙ (ap may_delay made ∙ run_keeps c.args.self.now.opening c.args.self.now.journal)
