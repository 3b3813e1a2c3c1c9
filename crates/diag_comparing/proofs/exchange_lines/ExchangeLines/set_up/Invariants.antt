use Rattle.std.proofs.Common.{◌≡◌, [], length}
use Rattle.diag_comparing.specs.Keeping.{AreTesters}
use Rattle.diag_comparing.proofs.exchange_lines.ExchangeLines.set_up.Given as goal

abbrev pub invariant-loop-index : goal.invariant-loop-index
invariant-loop-index l = record {
  many : length l.testers.items ≡ l.index;
  each : AreTesters l.setup [] [] l.testers.items;
}
