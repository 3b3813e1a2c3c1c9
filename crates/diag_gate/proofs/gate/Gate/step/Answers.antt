use Rattle.std.proofs.Common.{ℕ, sym, ap, ◌∙◌, subst, MatchResult}
use Rattle.diag_gate.specs.Seats.{SeatView, Finds, Answered, IsSeat, Refused, seat_of, waited}
use Rattle.diag_ecu.specs.Respond.{may_delay}
use Rattle.diag_gate.proofs.Steps.{made_of, same_opening}
use Rattle.diag_gate.proofs.gate.Gate.step.Goals as goal
use Rattle.diag_gate.proofs.gate.Gate.step.Goals.{After-work}

-- the seat before the step, once it has waited
abbrev start : (g : _) → After-work g → SeatView
start g c = waited c.args.seat.now c.loop.invariant.waits.0

made : (g : _) (c : After-work g) → MatchResult c.work.result
    (λ r. Answered (start g c) (seat_of c.seat.inside.who c.work.new.place) c.args.step.now r)
    (λ e. Refused (start g c) (seat_of c.seat.inside.who c.work.new.place) e)
made g c =
    let who = c.seat.inside.who in
    let m = c.loop.invariant.waits.0 in
    let found : SeatView = seat_of who c.take.new.place in
    let held : SeatView = seat_of who c.seat.inside.place in
    let waits = ◌∙◌ {b = waited held m} c.loop.invariant.waits.1 (ap (λ (s : SeatView). waited s m) c.seat.view_is) in
    let finds = subst (λ (s : SeatView). Finds s found) waits c.in-Some-take.ensures.taken.1 in
    made_of (start g c) found (seat_of who c.work.new.place) c.args.step.now c.work.result finds c.work.ensures.answer

pub returns-in-Some-take-clause-made : goal.returns-in-Some-take-clause-made
returns-in-Some-take-clause-made g c =
    let w = (goal.at.returns-in-Some-take-clause-made g c).After-work in (
      c.loop.invariant.waits.0,
      subst (λ (who : ℕ). MatchResult c.work.result (λ r. Answered (start g w) (seat_of who c.work.new.place) c.args.step.now r)
          (λ e. Refused (start g w) (seat_of who c.work.new.place) e)) (sym c.loop.invariant.same.0) (made g w),
    )

pub invariant_of-seat : goal.invariant_of-seat
invariant_of-seat g c =
    let w = (goal.at.invariant_of-seat g c).After-work in
    let opening = same_opening (start g w) (seat_of c.seat.inside.who c.work.new.place) c.args.step.now c.work.result (made g w)
    ∙ ap (λ (s : SeatView). s.opening) (sym c.seat.view_is) in (
      subst (λ (who : ℕ). IsSeat who c.work.new.place.spot.me) (sym c.loop.invariant.same.0) c.work.ensures.seat,
      c.loop.invariant.delays ∙ c.seat.invariant.1 ∙ ap may_delay (sym opening),
    )
