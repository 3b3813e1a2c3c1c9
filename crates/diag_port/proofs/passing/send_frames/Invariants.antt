use Rattle.std.proofs.Common.{◌≡◌, ◌≤◌}
use Rattle.diag_tp.specs.Link.{pending}
use Rattle.diag_port.specs.Port.{Grew, HasRoomFor, KeepsFrameRoom}
use Rattle.diag_port.proofs.Handing.{Handed}
use Rattle.diag_port.proofs.passing.send_frames.Given as goal

abbrev pub invariant-loop : goal.invariant-loop
invariant-loop l = record {
  room : HasRoomFor l.link.state (pending l.link.state) l.out;
  grew : Grew l.initial.out.items l.out.items (Handed l.initial.link.state l.link.state l.at);
  now : l.at ≡ l.initial.link.state.now;
  time : l.link.state.now ≡ l.initial.link.state.now;
  kept : KeepsFrameRoom l.initial.link.state l.link.state l.initial.out l.out;
  rooms : l.initial.link.reply_room ≤ l.link.reply_room;
}

abbrev pub decreases-loop : goal.decreases-loop
decreases-loop l = pending l.link.state
