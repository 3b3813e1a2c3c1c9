use Rattle.std.proofs.Common.{◌≡◌, Some, None, ◌++◌, ap, subst, sym, ◌∙◌}
use Rattle.std.proofs.lemmas.List.{append-nil}
use Rattle.diag_tp.specs.Moments.{last_moment}
use Rattle.diag_tp.specs.Placing.{placed_at}
use Rattle.diag_port.specs.Port.{AreWithin, LinkHandedOut}
use Rattle.diag_port.proofs.passing.place.Goals as goal

pub returns-in-Some-clause-placed : goal.returns-in-Some-clause-placed
returns-in-Some-clause-placed c =
    let sent = c.send_due.ensures.stands in
    let is : c.args.reply.now ≡ Some c.in-Some.message = sym c.in-Some.ensures.value in
    record {
      more = sent.more;
      grown = sent.grown;
      holds = (
        subst (λ from. AreWithin from c.send_due.new.link.state.now sent.more) c.answer.ensures.time sent.holds.0,
        λ s E A Q h time.
            subst (λ r. LinkHandedOut s c.send_due.new.link.state E (A ++ placed_at (last_moment E) r) (Q ++ sent.more)) (sym is)
            (sent.holds.1 s E _ Q (c.answer.ensures.stands s E A Q h) time),
      );
    }

pub returns-in-None-clause-placed : goal.returns-in-None-clause-placed
returns-in-None-clause-placed c =
    let sent = c.send_due-in-None.ensures.stands in
    let is : c.args.reply.now ≡ None = sym c.in-None.ensures.value in
    record {
      more = sent.more;
      grown = sent.grown;
      holds = (
        sent.holds.0,
        λ s E A Q h time.
            subst (λ A'. LinkHandedOut s c.send_due-in-None.new.link.state E A' (Q ++ sent.more))
            (sym (ap (λ r. A ++ placed_at (last_moment E) r) is ∙ append-nil A))
            (sent.holds.1 s E A Q h time),
      );
    }
