use Rattle.std.proofs.Common.{◌++◌, Some, List, length, map, ap, subst, sym, ◌∙◌}
use Rattle.std.proofs.lemmas.Result.{on_ok_weaker}
use Rattle.std.specs.List.{flat_map}
use Rattle.diag_can.specs.Log.{waited}
use Rattle.diag_pdu.specs.Cut.{counted_from}
use Rattle.diag_setup.specs.Rows.{in_order}
use Rattle.diag_tp.specs.SentFrames.{SentList}
use Rattle.diag_world.specs.Server.{each_of}
use Rattle.diag_bus.specs.Events.{frame_to}
use Rattle.diag_bus.specs.Node.{TookTime}
use Rattle.diag_bus.specs.Text.{gathered, time_of}
use Rattle.uds_unit.specs.Device.{AreSound, DeviceState, TookCall}
use Rattle.uds_unit.specs.Node.{Gave, IsReady}
use Rattle.uds_unit.specs.History.{At}
use Rattle.uds_unit.specs.declared.clock.Clock.{Clock}
use Rattle.uds_unit.proofs.Calling.{ready, seen, sound_more, took_call}
use Rattle.uds_unit.proofs.device.Device.take.Goals as goal

pub take-requires-clause-ready : goal.take-requires-clause-ready
take-requires-clause-ready c =
    subst (λ ms. IsReady c.begin.new.self (length c.self.inside.setup.testers) ms) (sym c.span-span.ensures)
    (ready c.self.inside.setup c.self.inside.node c.begin.new.self c.self.inside.clock c.args.moment c.requires c.self.invariant.0
    c.begin.ensures.server c.begin.ensures.shape)

pub returns-clause-took : goal.returns-clause-took
returns-clause-took c =
    let inside = c.self.inside in
    let n = length inside.setup.testers in
    let done = c.take.new.self in
    let call = At c.args.moment c.args.frame in
    let due = c.queue_drawn.new.waiting.items in
    let gave = subst
    (λ ms. Gave c.begin.new.self done (flat_map (each_of n) (waited ms) ++ flat_map (frame_to inside.setup c.args.frame) (counted_from 1 n)))
    c.span-span.ensures c.in_ok-take.ensures.ok in
    on_ok_weaker c.queue_drawn.result
    (λ queued. subst (λ (d : DeviceState). TookCall d (seen inside.setup done (Some c.at.result) due) call) c.self.view_is
    (subst (λ (k : Clock). TookCall (seen inside.setup inside.node inside.clock inside.waiting.items) (seen inside.setup done (Some k) due) call)
    (sym c.at.ensures)
    (took_call inside.setup inside.node c.begin.new.self done inside.clock inside.waiting.items due c.args.moment c.args.frame
    c.begin.ensures.empty c.begin.ensures.text c.begin.ensures.server c.begin.ensures.shape c.self.invariant.0.1 gave
    (queued ∙ ap (λ (lists : List SentList). inside.waiting.items ++ in_order time_of (gathered 1 (map (λ f. f.items) lists))) c.as_slice.ensures.value))))
    c.queue_drawn.ensures

pub invariant_of-self : goal.invariant_of-self
invariant_of-self c =
    let inside = c.self.inside in
    let took = subst (λ ms. TookTime c.begin.new.self.server c.take.new.self.server ms) c.span-span.ensures c.take.ensures.pace in
    let sound = sound_more inside.setup inside.node c.begin.new.self c.take.new.self inside.clock c.args.moment c.requires c.self.invariant.0
    c.begin.ensures.server c.begin.ensures.shape c.take.ensures.shape took in (
      subst (λ (k : Clock). AreSound inside.setup c.take.new.self (Some k)) (sym c.at.ensures) sound,
      c.self.invariant.1,
    )

pub invariant_of-self-2 : goal.invariant_of-self-2
invariant_of-self-2 c =
    let inside = c.self.inside in
    let took = subst (λ ms. TookTime c.begin.new.self.server c.take.new.self.server ms) c.span-span.ensures c.take.ensures.pace in
    let sound = sound_more inside.setup inside.node c.begin.new.self c.take.new.self inside.clock c.args.moment c.requires c.self.invariant.0
    c.begin.ensures.server c.begin.ensures.shape c.take.ensures.shape took in (
      subst (λ (k : Clock). AreSound inside.setup c.take.new.self (Some k)) (sym c.at.ensures) sound,
      c.self.invariant.1,
    )
