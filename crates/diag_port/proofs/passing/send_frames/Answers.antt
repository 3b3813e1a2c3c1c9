use Rattle.std.proofs.Common.{refl, ◌+◌, ◌<◌, subst, sym, ◌∙◌, arith}
use Rattle.diag_tp.specs.State.{LinkView}
use Rattle.diag_tp.specs.SentFrames.{SentList}
use Rattle.diag_port.specs.Port.{Grew, KeepsFrameRoom, SentDue}
use Rattle.diag_port.proofs.Handing.{handed_all, handed_none, handed_one}
use Rattle.diag_port.proofs.Rooms.{room_taken}
use Rattle.diag_port.proofs.passing.send_frames.Goals as goal

pub loop-init : goal.loop-init
loop-init c = record {
  room = c.requires.room;
  grew = handed_none c.args.link.now.state c.now-at.result c.args.out.now.items c.now-at.ensures.time;
  now = c.now-at.ensures.state;
  time = refl;
  kept = λ others room. room;
  rooms = omega arith;
}

pub loop-preserved : goal.loop-preserved
loop-preserved c =
    let inv = c.loop.invariant in
    let out = c.loop.out in
    let pushed = c.take_next.new.self in
    let old = c.loop.link.state in
    let new = c.take_next.new.link.state in
    let took = c.take_next.ensures.took c.loop-test.true in
    let less = c.take_next.ensures.room c.loop-test.true in
    let next = took.hands in
    record {
      room = room_taken old new _ _ out pushed took.setup took.pending less c.take_next.ensures.long inv.room;
      grew = handed_one c.args.link.now.state old new c.now-at.result next.frame c.args.out.now.items out.items pushed.items inv.grew next.grown next.goes;
      now = inv.now;
      time = took.time ∙ inv.time;
      kept = λ others room.
          room_taken old new _ _ out pushed took.setup (omega (arith, took.unsent)) less c.take_next.ensures.long (inv.kept others room);
      rooms = omega (arith, inv.rooms, took.reply_rooms);
    }

pub returns-clause-stands : goal.returns-clause-stands
returns-clause-stands c =
    let inv = c.loop.invariant in
    let start = c.args.link.now.state in
    let none = c.take_next.ensures.none c.loop-test.false in
    let out = c.args.out.now.items in
    subst (λ (o : SentList). Grew out o.items (SentDue start c.take_next.new.link.state)) (sym (c.take_next.ensures.same c.loop-test.false))
    (subst (λ (l : LinkView). Grew out c.loop.out.items (SentDue start l.state)) (sym none.same)
    (handed_all start c.loop.link.state c.now-at.result _ _ inv.grew inv.now inv.time none.all))

pub returns-clause-room : goal.returns-clause-room
returns-clause-room c =
    let start = c.args.link.now.state in
    let none = c.take_next.ensures.none c.loop-test.false in
    subst (λ (o : SentList). KeepsFrameRoom start c.take_next.new.link.state c.args.out.now o) (sym (c.take_next.ensures.same c.loop-test.false))
    (subst (λ (l : LinkView). KeepsFrameRoom start l.state c.args.out.now c.loop.out) (sym none.same) c.loop.invariant.kept)
