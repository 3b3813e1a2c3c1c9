use Rattle.std.proofs.Common.{rules}
use Rattle.diag_gate.proofs.lock.LockDoorDoor.who.Goals as goal

pub returns : goal.returns
returns g c = search rules
