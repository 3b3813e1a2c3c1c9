use Rattle.std.proofs.Common.{refl, ap, subst}
use Rattle.uds_unit.specs.Device.{DeviceState, TookCall}
use Rattle.uds_unit.specs.History.{SetStatus, set_to, status_set}
use Rattle.uds_unit.specs.declared.node.Node.{Node}
use Rattle.uds_unit.proofs.Calling.{seen, set_call}
use Rattle.uds_unit.proofs.device.Device.set_status.Goals as goal

pub returns-clause-set : goal.returns-clause-set
returns-clause-set c =
    let inside = c.self.inside in
    let old = inside.node in
    let new : Node = record { server = c.set_status.new.self; wanted = old.wanted; drawn = old.drawn; text = old.text } in
    let ecu = status_set old.server.ecu c.args.code c.args.status in
    subst (λ (d : DeviceState). TookCall d (seen inside.setup new inside.clock inside.waiting.items) (SetStatus c.args.code c.args.status)) c.self.view_is
    (set_call inside.setup old new inside.clock inside.waiting.items (SetStatus c.args.code c.args.status) ecu c.set_status.ensures.set refl refl
    (λ h is. ap (λ s. set_to inside.setup h (status_set s c.args.code c.args.status)) is))
