use Rattle.std.proofs.Common.{rules}
use Rattle.diag_ecu.proofs.ecu.Ecu.end_session.Goals as goal

pub returns : goal.returns
returns c = search rules
