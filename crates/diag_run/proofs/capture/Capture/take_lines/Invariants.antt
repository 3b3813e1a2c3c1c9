use Rattle.std.proofs.Common.{◌≡◌, [], length}
use Rattle.diag_run.proofs.Pieces.{SoFar}
use Rattle.diag_run.proofs.capture.Capture.take_lines.Given as goal

abbrev pub invariant-loop-first : goal.invariant-loop-first
invariant-loop-first g l = record {
  so_far : SoFar g.S.Sink g.S.Sink.took g.S.Sink.aim g.S.Sink.written g.S.Ending.ends l.initial.self l.self (g.W.Target.contents l.initial.out) (g.W.Target.contents l.out) l.piece l.rest;
  none : l.self.kept.items ≡ [];
  sound : g.W.Target.sound l.initial.out → g.W.Target.sound l.out;
}

abbrev pub decreases-loop-first : goal.decreases-loop-first
decreases-loop-first g l = length l.rest
