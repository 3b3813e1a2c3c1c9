use Rattle.std.proofs.Common.{◌≡◌, ◌≤◌, ◌+◌, ◌-◌, ◌++◌, length}
use Rattle.diag_port.specs.Late.{most_pendings, pendings}
use Rattle.diag_port.specs.Port.{IsEarly}
use Rattle.diag_port.proofs.held.Held.hold_pendings.Given as goal

-- those so far
abbrev pub invariant-loop-i : goal.invariant-loop-i
invariant-loop-i l = record {
  so_far : IsEarly l.now → l.initial.self.messages ++ pendings l.pace l.now l.after l.sid most_pendings 0
      ≡ l.self.messages ++ pendings l.pace l.now l.after l.sid (most_pendings - l.i) l.i;
  few : length l.self.messages ≤ length l.initial.self.messages + l.i;
  room : l.initial.self.room ≤ l.self.room + l.i;
  all : most_pendings ≤ l.initial.self.room;
}
