use Rattle.std.proofs.Common.{◌≡◌, ℕ, [], Some, length}
use Rattle.std.specs.Prelude.{slice_get}
use Rattle.diag_bus.specs.Comparing.{Compares}
use Rattle.diag_bus.specs.declared.comparing.Comparison.{Comparison}
use Rattle.diag_bus.proofs.comparing.no_frames.Given as goal

abbrev pub invariant-loop-made : goal.invariant-loop-made
invariant-loop-made l = record {
  many : length l.testers.items ≡ l.made;
  each : (i : ℕ) (own : Comparison) → slice_get l.testers.items i ≡ Some own → Compares own [] [];
}
