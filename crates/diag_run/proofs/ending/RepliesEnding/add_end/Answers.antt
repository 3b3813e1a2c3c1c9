use Rattle.std.proofs.Common.{[], append-nil, sym, refl}
use Rattle.diag_run.proofs.ending.RepliesEnding.add_end.Goals as goal

pub returns-clause-ok : goal.returns-clause-ok
returns-clause-ok c = record { more = []; grown = sym (append-nil c.args.arg5.now.items); holds = λ lines took ecu. refl }
