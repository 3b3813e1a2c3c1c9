use Rattle.std.proofs.Common.{◌≤◌, ◌<◌, ℕ, get_or}
use Rattle.diag_tp.specs.declared.sent.Sent.{Sent}
use Rattle.diag_bus.proofs.writing.is_in_order.Given as goal

abbrev pub invariant-loop-index : goal.invariant-loop-index
invariant-loop-index l = record {
  up : (i j : ℕ) (d : Sent) → i ≤ j → j < l.index → (get_or l.frames.items i d).at ≤ (get_or l.frames.items j d).at;
  last : (i : ℕ) (d : Sent) → i < l.index → (get_or l.frames.items i d).at ≤ l.last;
}
