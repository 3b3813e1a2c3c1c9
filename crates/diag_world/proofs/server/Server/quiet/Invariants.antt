use Rattle.std.proofs.Common.{◌≡◌, ◌≤◌, map, take}
use Rattle.diag_port.specs.Port.{port_of}
use Rattle.diag_world.specs.Server.{quiet_of}
use Rattle.diag_world.proofs.server.Server.quiet.Given as goal

abbrev pub invariant-loop-lazy : goal.invariant-loop-lazy
invariant-loop-lazy l = (l.least ≡ quiet_of (map port_of (take l.lazy-index l.self.ports))) × (1 ≤ l.least)
