use Rattle.std.proofs.Common.{length, ◌-◌, ◌≤◌, take}
use Rattle.std.specs.Io.KnownBytes.{Appends}
use Rattle.diag_text.proofs.io.write_part.Given as goal

abbrev pub invariant-loop-written : goal.invariant-loop-written
invariant-loop-written g l = record {
  sent : Appends (g.W.Target.contents l.initial.out) (g.W.Target.contents l.out) (take l.written l.text);
  within : l.written ≤ length l.text;
  sound : g.W.Target.sound l.initial.out → g.W.Target.sound l.out;
}

abbrev pub decreases-loop-written : goal.decreases-loop-written
decreases-loop-written g l = length l.text - l.written
