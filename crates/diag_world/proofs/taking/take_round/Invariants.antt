use Rattle.std.proofs.Common.{◌++◌, ℕ, List, map, take, drop}
use Rattle.diag_can.specs.Event.{Event as AnEvent}
use Rattle.diag_world.specs.Weaving.{first_of_each}
use Rattle.diag_world.proofs.taking.take_round.Given as goal

abbrev pub invariant-loop-index : goal.invariant-loop-index
invariant-loop-index g l =
    (terms : g.T.TakeEvents.Terms) (M : List (ℕ × AnEvent)) → g.T.TakeEvents.took l.initial.taker terms M
    → g.T.TakeEvents.took l.taker terms (M ++ first_of_each 1 (take l.index (map (drop l.round) (map (λ log. log.items) l.logs))))
