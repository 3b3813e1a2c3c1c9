use Rattle.std.proofs.Common.{subst}
use Rattle.diag_gate.specs.Seats.{SeatView, Finds, seat_of}
use Rattle.diag_gate.proofs.Steps.{tried_of}
use Rattle.diag_gate.proofs.gate.Gate.try_step.Goals as goal

pub returns-clause-made : goal.returns-clause-made
returns-clause-made c =
    let found : SeatView = seat_of c.seat.inside.who c.take.new.place in
    let after : SeatView = seat_of c.seat.inside.who c.work-answer.new.place in
    let finds = subst (λ (s : SeatView). Finds s found) c.seat.view_is c.in-Some.ensures.taken.1 in
    tried_of c.args.seat.now found after c.args.step c.work-answer.result c.tried.result finds c.work-answer.ensures.answer c.tried.ensures
