use Rattle.std.proofs.Common.{rules}
use Rattle.diag_sides.proofs.sender.Sender.current_frame.Goals as goal

pub returns-clause-some : goal.returns-clause-some
returns-clause-some c = search rules
