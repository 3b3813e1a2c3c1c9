use Rattle.std.proofs.Common.{List, [], refl, subst}
use Rattle.diag_tp.specs.declared.sent.Sent.{Sent}
use Rattle.diag_tp.specs.Link.{StandsFor}
use Rattle.diag_port.proofs.Quiet.{all_out}
use Rattle.diag_port.proofs.port.Port.new.Goals as goal

pub returns-clause-stands : goal.returns-clause-stands
returns-clause-stands c =
    let s = c.args.setup in
    let link = c.new-link.result.state in
    let fresh = c.new-link.ensures.stands in
    record {
      paced = refl;
      stands = record {
        stands = subst (λ (Q : List Sent). StandsFor s link [] [] Q) (all_out s link [] [] [] fresh c.new-link.ensures.drained) fresh;
        held = c.new.ensures;
        asked = tt;
      };
      asks = refl;
    }
