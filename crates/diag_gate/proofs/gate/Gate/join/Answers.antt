use Rattle.std.proofs.Common.{sym, ap, ◌∙◌, arith}
use Rattle.diag_gate.proofs.Keeps.{takes_seat_in, learns}
use Rattle.diag_gate.specs.Plays.{Sat}
use Rattle.diag_gate.proofs.gate.Gate.join.Goals as goal

pub join_seat-requires : goal.join_seat-requires
join_seat-requires c =
    let is = c.host.invariant.0.is in
    let seat = c.seat.invariant.0.is in
    let same = ap (λ h. h.gate) c.host.view_is ∙ c.requires.host ∙ sym c.self.view_is in
    let same_seat = ap (λ s. s.gate) c.seat.view_is ∙ c.requires.seat ∙ sym c.self.view_is in (
      same,
      same_seat,
      ap (λ (m : Sat). m.1) seat,
      (let w = c.self.invariant.0 in omega arith),
      takes_seat_in _ _ _ _ (ap (λ (m : Sat). m.0.is_seat) is) (ap (λ (m : Sat). m.0.holds) is) (ap (λ (m : Sat). m.0.is_seat) seat)
          (ap (λ (m : Sat). m.0.holds) seat)
          (let who = ap (λ (m : Sat). m.0.who) seat in let place = c.seat.invariant.0.place in let wide = c.host.invariant.0.wide.0 in omega arith),
    )

pub load-requires : goal.load-requires
load-requires c =
    let is = c.host.invariant.0.is in
    let same = ap (λ h. h.gate) c.host.view_is ∙ c.requires.host ∙ sym c.self.view_is in (
      c.join_seat.ensures.0 ∙ same,
      (let w = c.self.invariant.0 in omega arith),
      learns _ _ _ (ap (λ (m : Sat). m.0.holds) c.join_seat.ensures.2 ∙ ap (λ (m : Sat). m.0.holds) is),
    )
