use Rattle.std.proofs.Common.{◌≡◌, Some, refl, ap, length, sym, ◌∙◌, arith}
use Rattle.std.specs.List.{flat_map}
use Rattle.diag_pdu.specs.Cut.{counted_from}
use Rattle.diag_bus.specs.Events.{frame_to}
use Rattle.diag_bus.specs.RequestIds.{IsOwner, given}
use Rattle.diag_bus.proofs.Paces.{has_left}
use Rattle.uds_unit.proofs.Passing.{passed_as, passed_quiet, passed_then}
use Rattle.uds_unit.proofs.node.Node.take.Goals as goal

pub give_bytes-requires-clause-owner : goal.give_bytes-requires-clause-owner
give_bytes-requires-clause-owner c = c.owner.ensures

pub give_bytes-requires-clause-early : goal.give_bytes-requires-clause-early
give_bytes-requires-clause-early c =
    has_left c.args.self.now.server c.pass.new.self.server c.args.ms c.args.ms 0 (omega arith) c.requires.ready.early c.pass.ensures.pace

pub returns-in-Some : goal.returns-in-Some
returns-in-Some c =
    let setup = c.args.setup.now in
    let n = length setup.testers in
    let frame = c.frame.inside in
    let owns : IsOwner setup frame.id n c.owner.result = c.owner.ensures in
    let frames : flat_map (frame_to setup c.args.frame) (counted_from 1 n) ≡ given setup frame.id n c.owner.result frame.bytes.now =
    ap (λ f. flat_map (frame_to setup f) (counted_from 1 n)) (c.in-Some.is ∙ ap Some (sym c.frame.view_is)) ∙ owns.gives frame.bytes.now in
    passed_then c.args.ms (omega arith) c.in_ok-pass.ensures (passed_as refl (sym frames) c.give_bytes.ensures)

pub returns-in-None : goal.returns-in-None
returns-in-None c = passed_quiet c.args.setup.now c.args.frame c.in-None.is c.in_ok-pass.ensures
