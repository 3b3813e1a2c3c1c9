use Rattle.std.proofs.Common.{map}
use Rattle.diag_bus.specs.Comparing.{ExpectsAt}
use Rattle.diag_bus.proofs.Recordings.{UpTo}
use Rattle.diag_bus.proofs.comparing.expect_all.Given as goal

abbrev pub invariant-loop-index : goal.invariant-loop-index
invariant-loop-index l = UpTo (ExpectsAt (map (λ f. f.items) l.drawn)) l.initial.testers.items l.testers.items l.index
