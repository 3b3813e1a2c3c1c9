use Rattle.std.proofs.Common.{◌+◌, ◌≤◌, length}
use Rattle.diag_run.proofs.Following.{ReadSoFar}
use Rattle.diag_run.proofs.bus_run.follow.Given as goal

-- Each turn reads a byte, and a byte ends one line at most. All that was written was flushed.
abbrev pub invariant-loop-turn : goal.invariant-loop-turn
invariant-loop-turn g l = record {
  so_far : ReadSoFar g.S.Sink g.S.Sink.took g.S.Sink.aim g.S.Sink.written g.S.Ending.ends l.initial.taking l.taking (g.R.Source.remaining l.initial.capture) (g.R.Source.remaining l.capture)
      (g.W.Target.contents l.initial.out) (g.W.Target.contents l.out);
  turns : l.turn ≤ length so_far.bytes;
  lines : l.taking.lines ≤ l.initial.taking.lines + length so_far.bytes;
  flushed : g.W.Target.flushed l.out;
  sound : g.R.Source.sound l.initial.capture → g.R.Source.sound l.capture;
  unfailed : g.W.Target.sound l.initial.out → g.W.Target.sound l.out;
}
