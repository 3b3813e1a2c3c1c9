use Rattle.std.proofs.Common.{◌≡◌, [], ◌∷◌, ◌++◌, refl, ap, subst, sym, ◌∙◌, arith}
use Rattle.std.proofs.lemmas.List.{append-nil}
use Rattle.diag_tp.specs.declared.sent.Sent.{Sent}
use Rattle.diag_tp.specs.Link.{StandsFor}
use Rattle.diag_tp.specs.Moments.{last_moment, last_time}
use Rattle.diag_tp.specs.Placing.{placed_at}
use Rattle.diag_tp.specs.Wire.{wire}
use Rattle.diag_port.specs.Port.{AreWithin, LinkHandedOut}
use Rattle.diag_port.proofs.Within.{within_one, within_wider}
use Rattle.diag_port.proofs.passing.receive_alone.Goals as goal

pub returns-in-Some-answer_alone-clause-received : goal.returns-in-Some-answer_alone-clause-received
returns-in-Some-answer_alone-clause-received c =
    let at = c.now.result in
    let frame = c.in-Some-answer_alone.frame in
    let sent : Sent = record { at = at; frame = frame } in
    let old = c.args.link.now.state.now in
    let link = c.settle.new.self.state in
    let here = c.now.ensures.state in
    let same = c.settle.ensures.time in
    let e = c.args.event.now in
    record {
      more = sent ∷ [];
      grown = c.push.ensures.items;
      holds = (
        within_wider at at old link.now (sent ∷ []) (within_one sent at refl) (omega (arith, here, same)) (omega (arith, here)),
        λ s E A Q h time.
            let E' = E ++ e ∷ [] in
            let stands = c.settle.ensures.stands s E A Q h e c.requires.taken in
            let then : last_time E' ≡ at = omega (arith, c.now.ensures.time s E' A Q stands, time) in
            subst (λ r. LinkHandedOut s link E' (A ++ placed_at (last_moment E') r) (Q ++ sent ∷ [])) c.in-Some.ensures.value (
            let A' = A ++ record { moment = last_moment E'; message = c.in-Some.message.now } ∷ [] in
            record {
              stands = subst (λ t. StandsFor s link E' A' (Q ++ record { at = t; frame = frame } ∷ [])) then
                  (c.in-Some-answer_alone.ensures.next s E' A Q stands);
              all = subst (λ t. Q ++ record { at = t; frame = frame } ∷ [] ≡ wire s E' A') then
                  (c.in-Some-answer_alone.ensures.all s E' A Q stands);
            }),
      );
    }

pub returns-in-None-answer_alone-clause-received : goal.returns-in-None-answer_alone-clause-received
returns-in-None-answer_alone-clause-received c =
    let sent = c.place.ensures.placed in
    let e = c.args.event.now in
    record {
      more = sent.more;
      grown = sent.grown;
      holds = (
        subst (λ from. AreWithin from c.place.new.link.state.now sent.more) c.settle.ensures.time sent.holds.0,
        λ s E A Q h time. sent.holds.1 s (E ++ e ∷ []) A Q (c.settle.ensures.stands s E A Q h e c.requires.taken) time,
      );
    }

pub returns-in-None-clause-received : goal.returns-in-None-clause-received
returns-in-None-clause-received c =
    let sent = c.send_due.ensures.stands in
    let e = c.args.event.now in
    record {
      more = sent.more;
      grown = sent.grown;
      holds = (
        subst (λ from. AreWithin from c.send_due.new.link.state.now sent.more) c.settle.ensures.time sent.holds.0,
        λ s E A Q h time.
            subst (λ A'. LinkHandedOut s c.send_due.new.link.state (E ++ e ∷ []) A' (Q ++ sent.more))
            (sym (ap (λ r. A ++ placed_at (last_moment (E ++ e ∷ [])) r) (sym c.in-None.ensures.value) ∙ append-nil A))
            (sent.holds.1 s (E ++ e ∷ []) A Q (c.settle.ensures.stands s E A Q h e c.requires.taken) time),
      );
    }
