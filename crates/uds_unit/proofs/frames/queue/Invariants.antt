use Rattle.std.proofs.Common.{◌≡◌, ◌++◌}
use Rattle.std.specs.Vec.Iter.{drain_items}
use Rattle.uds_unit.proofs.frames.queue.Given as goal

abbrev pub invariant-loop-drawn : goal.invariant-loop-drawn
invariant-loop-drawn l = l.waiting.items ++ drain_items l.drawn-iterator ≡ l.fn.waiting.items ++ l.fn.batch.items
