use Rattle.std.proofs.Common.{◌≡◌, map}
use Rattle.diag_workers.proofs.seating.take_apart.Given as goal

abbrev pub invariant-loop-record : goal.invariant-loop-record
invariant-loop-record g l = record {
  can : (goal.iterator-loop-record g).can_next l.record-iterator;
  ends : (goal.iterator-loop-record g).is_finite l.record-iterator;
  seats : l.seats.items ≡ map (λ d. d.1.door) l.yielded;
  sent : map (λ s. s.items) l.sent.items ≡ map (λ d. d.0.sent.items) l.yielded;
}
