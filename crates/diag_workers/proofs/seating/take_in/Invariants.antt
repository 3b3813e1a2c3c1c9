use Rattle.diag_workers.specs.Seating.{Back}
use Rattle.diag_workers.proofs.seating.take_in.Given as goal

abbrev pub invariant-loop-seat : goal.invariant-loop-seat
invariant-loop-seat l = record {
  can : (goal.iterator-loop-seat).can_next l.seat-iterator;
  ends : (goal.iterator-loop-seat).is_finite l.seat-iterator;
  back : Back l.initial.host l.host l.yielded;
}
