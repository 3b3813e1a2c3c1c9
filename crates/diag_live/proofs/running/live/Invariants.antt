use Rattle.std.proofs.Common.{◌<◌, ◌≤◌}
use Rattle.diag_live.specs.Pace.{Did, times_asked}
use Rattle.diag_live.specs.Serving.{SoFar}
use Rattle.diag_live.proofs.running.live.Given as goal

-- In each turn the bench was asked once. Once a line was taken, all that was written was flushed.
abbrev pub invariant-loop-turn_number : goal.invariant-loop-turn_number
invariant-loop-turn_number g l = record {
  so_far : SoFar (Did g.B.Bench.story l.fn.bench l.bench) l.fn.setup l.serving (g.B.Bench.remaining l.fn.bench) (g.B.Bench.remaining l.bench) (g.W.Target.contents l.fn.out) (g.W.Target.contents l.out)
      (g.R.Target.contents l.fn.recorder) (g.R.Target.contents l.recorder);
  turns : l.turn_number ≤ times_asked so_far.steps;
  flushed : 0 < l.serving.capture.lines → g.W.Target.flushed l.out × g.R.Target.flushed l.recorder;
  unfailed : (g.W.Target.sound l.fn.out → g.W.Target.sound l.out) × (g.R.Target.sound l.fn.recorder → g.R.Target.sound l.recorder);
}
