use Rattle.std.proofs.Common.{◌≡◌, [], length}
use Rattle.std.specs.List.{All}
use Rattle.diag_run.specs.Logs.{AreLogs, TookLog}
use Rattle.diag_run.proofs.logs.first_takers.Given as goal

abbrev pub invariant-loop-index : goal.invariant-loop-index
invariant-loop-index l = record {
  many : length l.takers.items ≡ l.index;
  logs : AreLogs 1 l.setup l.timing l.takers.items;
  none : All (λ taker. TookLog taker []) l.takers.items;
}
