use Rattle.std.proofs.Common.{◌≡◌, ◌++◌, take}
use Rattle.std.specs.List.{flat_map}
use Rattle.diag_comparing.specs.Keeping.{written_at}
use Rattle.diag_comparing.proofs.telling.write_each.Given as goal

abbrev pub invariant-loop-judged : goal.invariant-loop-judged
invariant-loop-judged l = l.text.items ≡ l.fn.text.items ++ flat_map (written_at l.setup l.stamps l.differences) (take l.judged-index l.batch)
