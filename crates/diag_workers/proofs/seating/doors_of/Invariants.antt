use Rattle.std.proofs.Common.{◌≡◌, map}
use Rattle.diag_workers.proofs.seating.doors_of.Given as goal

abbrev pub invariant-loop-seat : goal.invariant-loop-seat
invariant-loop-seat g l = record {
  can : (goal.iterator-loop-seat g).can_next l.seat-iterator;
  ends : (goal.iterator-loop-seat g).is_finite l.seat-iterator;
  doors : map (λ d. d.door) l.doors.items ≡ l.yielded;
}
