use Rattle.std.proofs.Common.{◌≡◌, ◌≤◌, take, length}
use Rattle.diag_desk.specs.Entries.{own}
use Rattle.diag_workers.proofs.agreeing.agree.Given as goal

abbrev pub invariant-loop-i : goal.invariant-loop-i
invariant-loop-i l = record {
  same : take l.next l.kept.entries ≡ own (take l.i l.journal.entries) l.who;
  within : l.next ≤ length l.kept.entries;
}
