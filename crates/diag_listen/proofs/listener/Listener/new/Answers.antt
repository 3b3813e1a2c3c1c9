use Rattle.std.proofs.Common.{ap, sym, ◌∙◌}
use Rattle.std.specs.Prelude.{is_some}
use Rattle.diag_tp.specs.Reception.{open_at}
use Rattle.diag_listen.proofs.listener.Listener.new.Goals as goal

pub returns-clause-listens : goal.returns-clause-listens
unfolding open_at
returns-clause-listens c = record {
  stands = c.new-2.ensures;
  partial = c.new.ensures.partial;
  coming = ap is_some c.new-2.ensures.is_coming ∙ sym (ap is_some c.new.ensures.partial);
}
