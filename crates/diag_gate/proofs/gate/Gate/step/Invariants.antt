use Rattle.std.proofs.Common.{◌≡◌, ℕ}
use Rattle.diag_gate.specs.Seats.{IsSeat, seat_of, waited}
use Rattle.diag_gate.proofs.gate.Gate.step.Given as goal

abbrev pub invariant-loop : goal.invariant-loop
invariant-loop g l = record {
  iterates : (goal.iterator-loop g).can_next l.iterator' × (goal.iterator-loop g).is_finite l.iterator';
  seat : IsSeat l.who l.seat-inside.place.spot.me;
  same : (l.seat-inside.who ≡ l.who) × (l.seat-inside.place.spot.table_id ≡ l.initial.seat-inside.place.spot.table_id);
  delays : l.seat-inside.can_delay ≡ l.initial.seat-inside.can_delay;
  waits : (missed : ℕ) × (seat_of l.who l.seat-inside.place
      ≡ waited (seat_of l.who l.initial.seat-inside.place) missed);
}
