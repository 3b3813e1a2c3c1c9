use Rattle.diag_workers.specs.Seating.{Out}
use Rattle.diag_workers.proofs.seating.give_out.Given as goal

abbrev pub invariant-loop-k : goal.invariant-loop-k
invariant-loop-k l = Out l.initial.host l.host l.k l.seats.items
