use Rattle.std.proofs.Common.{◌≡◌, ◌≤◌, false, drop, length}
use Rattle.std.specs.List.{list_any}
use Rattle.diag_exchange.specs.Streaming.{hears_it}
use Rattle.diag_exchange.proofs.exchanges.hearer.Given as goal

abbrev pub invariant-loop-index : goal.invariant-loop-index
invariant-loop-index l = (l.index ≤ length l.live) × (list_any (hears_it) (drop l.index l.live) ≡ false)

abbrev pub decreases-loop-index : goal.decreases-loop-index
decreases-loop-index l = l.index
