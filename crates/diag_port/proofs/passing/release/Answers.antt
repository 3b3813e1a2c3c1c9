use Rattle.std.proofs.Common.{[], ◌∷◌, ◌++◌, length, ap, sym, ◌∙◌, append_assoc, arith}
use Rattle.std.proofs.lemmas.List.Sums.{sum_by-cons}
use Rattle.diag_tp.specs.Moments.{last_moment}
use Rattle.diag_tp.specs.Wire.{Placed}
use Rattle.diag_tp.proofs.Views.{reply_room_made}
use Rattle.diag_port.specs.declared.held.Later.{Later}
use Rattle.diag_port.specs.Held.{frames_of_later, held_frames}
use Rattle.diag_port.specs.Late.{released, still}
use Rattle.diag_port.proofs.LateLemmas.{released_due, still_due}
use Rattle.diag_port.proofs.Rooms.{frames_fewer}
use Rattle.diag_port.proofs.passing.release.Goals as goal

pub answer-requires : goal.answer-requires
answer-requires c = record {
  room = let split = ap length (c.in-Some.ensures.some).0 in
      reply_room_made c.loop-later.port.link (omega (arith, c.loop-later.invariant.rooms, split));
}

pub loop-later-preserved : goal.loop-later-preserved
loop-later-preserved c =
    let inv = c.loop-later.invariant in
    let t = c.now-now.result in
    let later : Later = c.in-Some.later in
    let H = c.pop_due.new.self.messages in
    let some = c.in-Some.ensures.some in
    let split = some.0 in
    let due = some.1 in
    let count = ap length split in
    let frames = ap held_frames split ∙ sum_by-cons frames_of_later later H in
    record {
      now = inv.now;
      pace = inv.pace;
      time = c.answer.ensures.time ∙ inv.time;
      setup = c.answer.ensures.setup ∙ inv.setup;
      stands = λ s E A Q h.
          let before = inv.stands s E A Q h in
          let m = last_moment E in
          let x : Placed = record { moment = m; message = later.message } in (
            before.0 ++ x ∷ [],
            (
              c.answer.ensures.stands s E before.0 Q before.1.0,
              before.1.1 ∙ (ap (λ w. before.0 ++ w) (ap (released m t) split ∙ released_due m t later H due) ∙ sym (append_assoc before.0 (x ∷ []) (released m t H))),
            ),
          );
      held = inv.held ∙ (ap (still t) split ∙ still_due t later H due);
      rooms = omega (arith, inv.rooms, count, c.answer.ensures.reply_rooms);
      due = omega (arith, inv.due, count, c.answer.ensures.due);
      unsent = omega (arith, inv.unsent, frames, c.answer.ensures.unsent, frames_fewer c.loop-later.port.link.state.setup.framing.tx_dl later.message);
    }
