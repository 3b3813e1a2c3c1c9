use Rattle.std.proofs.Common.{◌≡◌, refl, ap, length, sym, ◌∙◌, arith}
use Rattle.std.specs.List.{flat_map}
use Rattle.diag_can.specs.declared.bus_line.BusLine.TheVariants.{Stamped}
use Rattle.diag_can.specs.declared.frame.Frame.{Frame}
use Rattle.diag_pdu.specs.Cut.{counted_from}
use Rattle.diag_bus.specs.Events.{frame_said, frame_to}
use Rattle.diag_bus.specs.RequestIds.{IsOwner, given}
use Rattle.diag_bus.proofs.Paces.{has_left}
use Rattle.diag_bus.proofs.Passing.{no_frame, passed_as, passed_quiet, passed_then, stays_kept}
use Rattle.diag_bus.proofs.node.Node.take.Goals as goal

pub give_frame-requires-clause-owner : goal.give_frame-requires-clause-owner
give_frame-requires-clause-owner g c = rw (sym c.id.ensures) c.owner-owner.ensures

pub give_frame-requires-clause-early : goal.give_frame-requires-clause-early
give_frame-requires-clause-early g c =
    has_left c.args.self.now.server c.pass.new.self.server c.args.ms c.args.ms 0 (omega arith) c.requires.ready.early c.pass.ensures.pace

pub returns-in-Some : goal.returns-in-Some
returns-in-Some g c =
    let setup = c.args.setup.now in
    let n = length setup.testers in
    let frame : Frame = c.in-Some.frame in
    let owner = c.owner-owner.result in
    let owns : IsOwner setup frame.id n owner = rw (sym c.id.ensures) c.owner-owner.ensures in
    let frames : flat_map (frame_to setup (frame_said c.args.said.now)) (counted_from 1 n) ≡ given setup frame.id n owner frame.bytes =
    ap (λ s. flat_map (frame_to setup (frame_said s)) (counted_from 1 n)) (c.in-Stamped.is ∙ ap (λ f. Stamped c.in-Stamped.moment f) c.in-Some.is)
    ∙ owns.gives frame.bytes in
    passed_then _ _ (stays_kept g.S.Sink.is_for g.S.Sink.aim) c.args.ms (omega arith) c.in_ok-pass.ensures (passed_as _ _ refl (sym frames) c.give_frame.ensures)

pub returns-in-None : goal.returns-in-None
returns-in-None g c =
    passed_quiet _ _ c.args.setup.now c.args.said.now (ap frame_said (c.in-Stamped.is ∙ ap (λ f. Stamped c.in-Stamped.moment f) c.in-None.is)) c.in_ok-pass.ensures

pub returns-in-Empty : goal.returns-in-Empty
returns-in-Empty g c = passed_quiet _ _ c.args.setup.now c.args.said.now (no_frame c.args.said.now c.in-Empty.is) c.in_ok-pass.ensures

pub returns-in-Empty-2 : goal.returns-in-Empty-2
returns-in-Empty-2 g c = passed_quiet _ _ c.args.setup.now c.args.said.now (no_frame c.args.said.now c.in-Empty.is) c.in_ok-pass.ensures
