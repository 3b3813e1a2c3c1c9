use Rattle.std.proofs.Common.{◌≡◌, ◌∷◌, [], ◌++◌, ap, subst, sym, ◌∙◌, arith}
use Rattle.diag_tp.specs.Moments.{history, last_moment, last_time}
use Rattle.diag_tp.specs.Wire.{wire}
use Rattle.diag_tp.specs.Link.{StandsFor}
use Rattle.diag_tp.proofs.Moments.{last_time-frame}
use Rattle.diag_port.specs.Port.{AreWithin}
use Rattle.diag_port.specs.Late.{laters, placed_late, released, still, NoneIsDue}
use Rattle.diag_port.proofs.LateLemmas.{still_not_due}
use Rattle.diag_port.proofs.PortLemmas.{asked_received, goes_received}
use Rattle.diag_port.proofs.Rooms.{room_fewer}
use Rattle.diag_port.proofs.passing.receive_held.Goals as goal

pub release-requires : goal.release-requires
release-requires c = record {
  rooms = omega (arith, c.hold_reply.ensures.few, c.requires.can.link, c.settle.ensures.reply_rooms);
}

pub send_due-requires : goal.send_due-requires
send_due-requires c = record {
  room = room_fewer c.args.port.now.link.state c.release.new.port.link.state _ _ c.args.out.now (c.release.ensures.setup ∙ c.settle.ensures.setup)
      (omega (arith, c.release.ensures.due, c.hold_reply.ensures.few, c.settle.ensures.due, c.settle.ensures.unsent)) c.requires.can.frames;
}

pub returns-clause-rest : goal.returns-clause-rest
returns-clause-rest c =
    let same : c.send_due.new.link.state.now ≡ c.settle.new.self.state.now = c.send_due.ensures.time ∙ c.release.ensures.time in
    record {
      drained = c.send_due.ensures.drained;
      none_due = rw (same, c.release.ensures.held) (still_not_due c.settle.new.self.state.now c.hold_reply.new.self.messages);
      rooms = omega (arith, c.release.ensures.rooms, c.send_due.ensures.reply_rooms);
    }

pub returns-clause-received : goal.returns-clause-received
returns-clause-received c =
    let sent = c.send_due.ensures.stands in
    let more = sent.more in
    let old = c.args.port.now in
    let e = c.args.event.now in
    let t = c.settle.new.self.state.now in
    let frame = c.requires.taken.frame in
    let start : c.release.new.port.link.state.now ≡ old.link.state.now = c.release.ensures.time ∙ c.settle.ensures.time in
    record {
      more = more;
      grown = sent.grown;
      holds = (
        subst (λ from. AreWithin from c.send_due.new.link.state.now more) start sent.holds.0,
        λ s E L Q h early.
            let E' = E ++ e ∷ [] in
            let A = placed_late (history E) 0 L in
            let last = last_time-frame E e frame in
            let before : old.link.state.now ≡ last_time E = h.stands.now ∙ omega (arith, early) in
            let clock : t ≡ last_time E = c.settle.ensures.time ∙ before in
            let none : NoneIsDue (last_time E) old.held.messages = subst (λ n. NoneIsDue n old.held.messages) before c.requires.rest.none_due in
            let at : c.now.result ≡ last_time E = c.now.ensures.state ∙ clock in
            let N = laters c.args.port.now.pace (last_time E) c.args.after c.args.sid c.args.reply.now in
            let grown : c.hold_reply.new.self.messages ≡ old.held.messages ++ N =
            c.hold_reply.ensures.held (omega (arith, at, early)) ∙ ap (λ n. old.held.messages ++ laters c.args.port.now.pace n c.args.after c.args.sid c.args.reply.now) at in
            let goes = goes_received E L e t old.held.messages N frame h.asked h.held none clock in
            let settled = c.settle.ensures.stands s E A Q h.stands e c.requires.taken in
            let given = subst (λ H. StandsFor s c.release.new.port.link.state E' (A ++ released (last_moment E') t H) Q) grown (c.release.ensures.stands s E' A Q settled) in
            let out = sent.holds.1 s E' (A ++ released (last_moment E') t (old.held.messages ++ N)) Q given (omega (arith, early, last)) in
            record {
              stands = record {
                stands = subst (λ A'. StandsFor s c.send_due.new.link.state E' A' (Q ++ more)) (sym goes.placed) out.stands;
                held = c.release.ensures.held ∙ (ap (still t) grown ∙ sym goes.held);
                asked = asked_received E L e N frame h.asked;
              };
              all = out.all ∙ ap (wire s E') (sym goes.placed);
            },
      );
    }
