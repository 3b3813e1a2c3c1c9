use Rattle.std.proofs.Common.{◌≡◌, ◌≤◌, length, ◌∷◌, [], ◌++◌, refl, ap, subst, sym, ◌∙◌, arith}
use Rattle.diag_tp.specs.Moments.{history, last_moment, last_time}
use Rattle.diag_tp.specs.Placing.{placed_at}
use Rattle.diag_tp.specs.Wire.{wire}
use Rattle.diag_tp.specs.Link.{StandsFor}
use Rattle.diag_tp.proofs.Moments.{last_time-frame}
use Rattle.diag_port.specs.Late.{NoneIsDue, laters, placed_late, released, still}
use Rattle.diag_port.proofs.PortLemmas.{asked_received, goes_received, released_at_once, still_at_once}
use Rattle.diag_port.proofs.passing.receive_at_once.Goals as goal

pub returns-clause-received : goal.returns-clause-received
returns-clause-received c = λ sid.
    let sent = c.receive_alone.ensures.received in
    let more = sent.more in
    let old = c.args.port.now in
    let e = c.args.event.now in
    let reply = c.args.reply.now in
    let frame = c.requires.taken.frame in
    let empty : old.held.messages ≡ [] = c.requires.none_held in
    record {
      more = more;
      grown = sent.grown;
      holds = (
        sent.holds.0,
        λ s E L Q h early.
            let E' = E ++ e ∷ [] in
            let A = placed_late (history E) 0 L in
            let d = last_moment E' in
            let t = last_time E in
            let N = laters old.pace t 0 sid reply in
            let goes = goes_received E L e t [] N frame h.asked (sym empty ∙ h.held) tt refl in
            let now : released d t N ≡ placed_at d reply = released_at_once old.pace d t 0 sid reply refl in
            let left : still t N ≡ [] = still_at_once old.pace t 0 sid reply refl in
            let placed : A ++ placed_at d reply ≡ _ = ap (λ B. A ++ B) (sym now) ∙ sym goes.placed in
            let out = sent.holds.1 s E A Q h.stands (omega (arith, early, last_time-frame E e frame)) in
            record {
              stands = record {
                stands = subst (λ A'. StandsFor s c.receive_alone.new.link.state E' A' (Q ++ more)) placed out.stands;
                held = empty ∙ (sym left ∙ sym goes.held);
                asked = asked_received E L e N frame h.asked;
              };
              all = out.all ∙ ap (wire s E') placed;
            },
      );
    }

pub returns-clause-rest : goal.returns-clause-rest
returns-clause-rest c =
    record {
      drained = c.receive_alone.ensures.drained;
      none_due = subst (NoneIsDue c.receive_alone.new.link.state.now) (sym c.requires.none_held) tt;
      rooms = subst (λ H. length H ≤ c.receive_alone.new.link.reply_room) (sym c.requires.none_held) (omega arith);
    }
