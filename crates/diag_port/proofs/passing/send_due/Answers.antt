use Rattle.std.proofs.Common.{[], subst, sym}
use Rattle.std.proofs.lemmas.List.{append-nil}
use Rattle.diag_port.specs.Port.{LinkHandedOut}
use Rattle.diag_port.proofs.Within.{within_none}
use Rattle.diag_port.proofs.passing.send_due.Goals as goal

pub returns-then-is_drained-clause-stands : goal.returns-then-is_drained-clause-stands
returns-then-is_drained-clause-stands c =
    let link = c.args.link.now.state in
    record {
      more = [];
      grown = sym (append-nil c.args.out.now.items);
      holds = (
        within_none _ _,
        λ s E A Q h time. subst (λ Q'. LinkHandedOut s link E A Q') (sym (append-nil Q))
            (record { stands = h; all = (c.is_drained.ensures.all s E A Q h).0 c.if-is_drained.true }),
      );
    }
