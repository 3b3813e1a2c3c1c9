use Rattle.std.proofs.Common.{◌≡◌, ◌≤◌, false, drop, length}
use Rattle.std.specs.List.{list_any}
use Rattle.diag_exchange.specs.Streaming.{may_hear}
use Rattle.diag_exchange.proofs.exchanges.latest.Given as goal

abbrev pub invariant-loop-index : goal.invariant-loop-index
invariant-loop-index l = (l.index ≤ length l.live) × (list_any (may_hear l.loud l.start) (drop l.index l.live) ≡ false)

abbrev pub decreases-loop-index : goal.decreases-loop-index
decreases-loop-index l = l.index
