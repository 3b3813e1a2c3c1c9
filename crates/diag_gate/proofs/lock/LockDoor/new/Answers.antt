use Rattle.std.proofs.Common.{rules}
use Rattle.diag_gate.proofs.lock.LockDoor.new.Goals as goal

pub returns : goal.returns
returns g c = search rules
