use Rattle.std.proofs.Common.{◌≡◌, ◌++◌, take}
use Rattle.diag_bus.specs.Text.{own_text}
use Rattle.diag_bus.proofs.writing.write_each.Given as goal

abbrev pub invariant-loop-place : goal.invariant-loop-place
invariant-loop-place l = record {
  names : l.writers.items ≡ l.fn.writers.items;
  text : l.text.items ≡ l.fn.text.items ++ own_text l.setup l.clock.start l.index (take l.place l.frames.items);
}
