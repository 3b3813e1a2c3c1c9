use Rattle.std.proofs.Common.{[], map}
use Rattle.diag_world.specs.Weaving.{rounds}
use Rattle.diag_world.proofs.taking.take_turns.Given as goal

abbrev pub invariant-loop-round : goal.invariant-loop-round
invariant-loop-round g l =
    (terms : g.T.TakeEvents.Terms) → g.T.TakeEvents.took l.initial.taker terms []
    → g.T.TakeEvents.took l.taker terms (rounds l.round (map (λ log. log.items) l.logs))
