use Rattle.std.proofs.Common.{◌≡◌, ◌≤◌, ◌+◌, ◌∷◌, [], ◌++◌, ap, subst, sym, ◌∙◌, arith}
use Rattle.diag_can.specs.Event.{Ticks}
use Rattle.diag_tp.specs.Moments.{history, last_moment, last_time}
use Rattle.diag_tp.specs.Wire.{wire}
use Rattle.diag_tp.specs.Link.{StandsFor}
use Rattle.diag_tp.proofs.Views.{pending_unsent}
use Rattle.diag_tp.proofs.Moments.{last_time-ticks}
use Rattle.diag_port.specs.Held.{held_frames, until_due}
use Rattle.diag_port.specs.Late.{placed_late, released}
use Rattle.diag_port.proofs.LateLemmas.{still_not_due}
use Rattle.diag_port.proofs.PortLemmas.{asked_on, goes_moved}
use Rattle.diag_port.proofs.Rooms.{room_fewer}
use Rattle.diag_port.proofs.Within.{within_wider}
use Rattle.diag_port.proofs.passing.move_on.Goals as goal

pub send_due-requires : goal.send_due-requires
send_due-requires c = record {
  room = room_fewer c.args.port.now.link.state c.release.new.port.link.state _ _ c.args.out.now (c.release.ensures.setup ∙ c.advance.ensures.setup)
      (omega (arith, pending_unsent c.release.new.port.link.state, c.release.ensures.unsent, c.advance.ensures.unsent)) c.requires.room;
}

pub returns-clause-rest : goal.returns-clause-rest
returns-clause-rest c =
    let t = c.advance.new.self.state.now in
    let same : c.send_due.new.link.state.now ≡ t = c.send_due.ensures.time ∙ c.release.ensures.time in
    record {
      drained = c.send_due.ensures.drained;
      none_due = rw (same, c.release.ensures.held) (still_not_due t c.args.port.now.held.messages);
      rooms = omega (arith, c.release.ensures.rooms, c.send_due.ensures.reply_rooms);
    }

pub returns-clause-passed : goal.returns-clause-passed
returns-clause-passed c =
    let sent = c.send_due.ensures.stands in
    let more = sent.more in
    let old = c.args.port.now in
    let part = c.args.part in
    let t = c.advance.new.self.state.now in
    record {
      more = more;
      grown = sent.grown;
      holds = (
        within_wider c.release.new.port.link.state.now c.send_due.new.link.state.now old.link.state.now c.send_due.new.link.state.now more sent.holds.0
            (omega (arith, c.release.ensures.time, c.advance.ensures.later)) (omega arith),
        λ s E L Q h time.
            let E' = E ++ Ticks part ∷ [] in
            let A = placed_late (history E) 0 L in
            let last = last_time-ticks E part in
            let before : old.link.state.now ≡ last_time E = h.stands.now ∙ omega (arith, time) in
            let clock : t ≡ last_time E + part = c.advance.ensures.time ∙ omega (arith, before, time) in
            let few : part ≤ until_due (last_time E) old.held.messages = subst (λ n. part ≤ until_due n old.held.messages) before c.requires.before in
            let goes = goes_moved E L part t old.held.messages (omega (arith, c.get-some.ensures)) h.asked h.held few clock in
            let advanced = c.advance.ensures.stands s E A Q h.stands in
            let given = c.release.ensures.stands s E' A Q advanced in
            let out = sent.holds.1 s E' (A ++ released (last_moment E') t old.held.messages) Q given (omega (arith, last, time)) in
            record {
              stands = record {
                stands = subst (λ A'. StandsFor s c.send_due.new.link.state E' A' (Q ++ more)) (sym goes.placed) out.stands;
                held = c.release.ensures.held ∙ sym goes.held;
                asked = asked_on E part L h.asked;
              };
              all = out.all ∙ ap (wire s E') (sym goes.placed);
            },
      );
    }

pub returns-clause-room : goal.returns-clause-room
returns-clause-room c =
    let H = c.release.new.port.held.messages in
    c.send_due.ensures.room (held_frames H) (room_fewer c.args.port.now.link.state c.release.new.port.link.state _ _ c.args.out.now
    (c.release.ensures.setup ∙ c.advance.ensures.setup) (omega (arith, c.release.ensures.unsent, c.advance.ensures.unsent)) c.requires.room)
