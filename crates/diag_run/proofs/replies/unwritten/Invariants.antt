use Rattle.std.proofs.Common.{◌≡◌, length}
use Rattle.diag_run.specs.Playing.{AreUnwritten}
use Rattle.diag_run.proofs.replies.unwritten.Given as goal

abbrev pub invariant-loop-index : goal.invariant-loop-index
invariant-loop-index l = record {
  many : length l.lines.items ≡ l.index;
  none : AreUnwritten l.setup l.lines.items;
}
