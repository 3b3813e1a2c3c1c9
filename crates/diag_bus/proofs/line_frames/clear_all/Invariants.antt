use Rattle.std.proofs.Common.{◌≡◌, ◌<◌, ℕ, [], Some, length}
use Rattle.std.specs.Prelude.{slice_get}
use Rattle.diag_tp.specs.SentFrames.{SentList}
use Rattle.diag_bus.proofs.line_frames.clear_all.Given as goal

abbrev pub invariant-loop-index : goal.invariant-loop-index
invariant-loop-index l = record {
  lists : length l.drawn.items ≡ length l.fn.drawn.items;
  empty : (k : ℕ) (v : SentList) → k < l.index → slice_get l.drawn.items k ≡ Some v → v.items ≡ [];
}
