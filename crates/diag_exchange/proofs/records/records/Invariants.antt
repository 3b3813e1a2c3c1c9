use Rattle.std.proofs.Common.{◌≡◌, ◌++◌, map, length}
use Rattle.diag_exchange.specs.Agreeing.{records}
use Rattle.diag_exchange.proofs.records.records.Given as goal

abbrev pub invariant-loop-rest : goal.invariant-loop-rest
invariant-loop-rest l = map (λ r. r.now) l.found.items ++ records l.rest ≡ records l.list

abbrev pub decreases-loop-rest : goal.decreases-loop-rest
decreases-loop-rest l = length l.rest
