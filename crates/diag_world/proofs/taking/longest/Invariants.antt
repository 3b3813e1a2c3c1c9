use Rattle.std.proofs.Common.{◌≡◌, map, take}
use Rattle.diag_world.specs.Weaving.{longest}
use Rattle.diag_world.proofs.taking.longest.Given as goal

abbrev pub invariant-loop-log : goal.invariant-loop-log
invariant-loop-log l = l.most ≡ longest (map (λ log. log.items) (take l.log-index l.logs))
