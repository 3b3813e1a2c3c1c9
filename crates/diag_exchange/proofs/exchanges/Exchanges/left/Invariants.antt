use Rattle.std.proofs.Common.{◌≡◌, ◌++◌, map, take}
use Rattle.diag_exchange.specs.Streaming.{told}
use Rattle.diag_exchange.proofs.exchanges.Exchanges.left.Given as goal

abbrev pub invariant-loop-open : goal.invariant-loop-open
invariant-loop-open l = l.over.items ≡ l.fn.over.items ++ map told (take l.open-index l.self.live.items)
