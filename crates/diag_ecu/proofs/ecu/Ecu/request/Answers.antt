use Rattle.std.proofs.Common.{rules}
use Rattle.diag_ecu.proofs.ecu.Ecu.request.Goals as goal

pub returns-clause-state : goal.returns-clause-state
returns-clause-state c = search rules

pub returns-in_err-decided-clause-refused : goal.returns-in_err-decided-clause-refused
returns-in_err-decided-clause-refused c = search rules

pub returns-clause-reply : goal.returns-clause-reply
returns-clause-reply c = search rules
