use Rattle.std.proofs.Common.{refl, ap, subst}
use Rattle.std.proofs.lemmas.Result.{on_ok_weaker}
use Rattle.uds_unit.specs.Device.{DeviceState, TookCall}
use Rattle.uds_unit.specs.History.{SetValue, set_to, value_set}
use Rattle.uds_unit.specs.declared.node.Node.{Node}
use Rattle.uds_unit.proofs.Calling.{seen, set_call}
use Rattle.uds_unit.proofs.device.Device.set_value.Goals as goal

pub returns-clause-ok : goal.returns-clause-ok
returns-clause-ok c =
    let inside = c.self.inside in
    let old = inside.node in
    let new : Node = record { server = c.set_value.new.self; wanted = old.wanted; drawn = old.drawn; text = old.text } in
    let ecu = value_set old.server.ecu c.args.id c.args.value.now in
    on_ok_weaker c.set_value.result
    (λ was. subst (λ (d : DeviceState). TookCall d (seen inside.setup new inside.clock inside.waiting.items) (SetValue c.args.id c.args.value.now)) c.self.view_is
    (set_call inside.setup old new inside.clock inside.waiting.items (SetValue c.args.id c.args.value.now) ecu was refl refl
    (λ h is. ap (λ s. set_to inside.setup h (value_set s c.args.id c.args.value.now)) is)))
    c.set_value.ensures.ok
