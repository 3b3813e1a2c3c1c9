use Rattle.std.proofs.Common.{◌≡◌, ◌++◌, take}
use Rattle.std.specs.List.{flat_map}
use Rattle.diag_bus.specs.Text.{line_of}
use Rattle.diag_bus.proofs.writing.write_batch.Given as goal

abbrev pub invariant-loop-drawn : goal.invariant-loop-drawn
invariant-loop-drawn l = record {
  names : l.writers.items ≡ l.fn.writers.items;
  text : l.text.items ≡ l.fn.text.items ++ flat_map (line_of l.setup l.clock.start) (take l.drawn-index l.drawn-items);
}
