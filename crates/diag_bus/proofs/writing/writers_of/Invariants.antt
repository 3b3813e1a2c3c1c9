use Rattle.std.proofs.Common.{◌≡◌, ℕ, ◌+◌, Some, length}
use Rattle.std.specs.Prelude.{slice_get}
use Rattle.diag_can.specs.WriterView.{WriterView}
use Rattle.diag_bus.specs.Writing.{writer_of}
use Rattle.diag_bus.proofs.writing.writers_of.Given as goal

abbrev pub invariant-loop-index : goal.invariant-loop-index
invariant-loop-index l = record {
  many : length l.writers.items ≡ l.index;
  each : (i : ℕ) (writer : WriterView) → slice_get l.writers.items i ≡ Some writer → writer ≡ writer_of l.setup (i + 1);
}
