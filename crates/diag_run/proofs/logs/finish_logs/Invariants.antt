use Rattle.std.proofs.Common.{◌≡◌, ◌+◌, ℕ, List, length}
use Rattle.std.specs.Vec.Iter.{into_iter_items}
use Rattle.diag_can.specs.declared.log.Timing.{Timing}
use Rattle.diag_setup.specs.declared.raw.RawSetup.{RawSetup}
use Rattle.diag_run.specs.Files.{AreTaken}
use Rattle.diag_run.specs.Logs.{AreLogs, TookLog}
use Rattle.diag_run.proofs.Finishing.{Finished}
use Rattle.diag_run.proofs.logs.finish_logs.Given as goal

abbrev pub invariant-loop-taker : goal.invariant-loop-taker
invariant-loop-taker l = record {
  can : (goal.iterator-loop-taker).can_next l.taker-iterator;
  ends : (goal.iterator-loop-taker).is_finite l.taker-iterator;
  many : length l.logs.items + length (into_iter_items l.taker-iterator) ≡ length l.fn.takers.items;
  taken : (texts : List (List ℕ)) × AreTaken TookLog (into_iter_items l.taker-iterator) texts;
  finished : (setup : RawSetup) (timing : Timing) (texts : List (List ℕ)) → AreLogs 1 setup timing l.fn.takers.items → AreTaken TookLog l.fn.takers.items texts
      → Finished setup timing texts l.logs.items (into_iter_items l.taker-iterator);
}
