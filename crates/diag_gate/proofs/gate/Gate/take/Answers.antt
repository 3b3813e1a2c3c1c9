use Rattle.std.proofs.Common.{◌≡◌, ◌∷◌, Option, Some, sym, ap, ◌∙◌, arith, subst, MatchOption}
use Rattle.atomic_table.specs.Table.{rest}
use Rattle.diag_desk.specs.Legal.{Run}
use Rattle.diag_gate.specs.Seats.{seat_as, misses, IsSeat, IsGuard, Finds}
use Rattle.diag_gate.specs.Rule.{run}
use Rattle.diag_gate.proofs.Keeps.{takes_or_misses}
use Rattle.diag_gate.specs.Plays.{Sat}
use Rattle.diag_gate.proofs.Steps.{held_is, finds_is, run_is}
use Rattle.diag_gate.proofs.gate.Gate.take.Goals as goal

pub compare_exchange-requires : goal.compare_exchange-requires
compare_exchange-requires c =
    let seat = c.requires.seat in
    let is = seat.is in (
      c.requires.gate ∙ sym c.self.view_is,
      (let w = c.self.invariant.0 in omega arith),
      takes_or_misses _ _ _ (ap (λ (m : Sat). m.0.live) is) (ap (λ (m : Sat). m.0.holds) is) (ap (λ (m : Sat). m.1) is)
          (ap (λ (m : Sat). m.0.is_seat) is) (let who = ap (λ (m : Sat). m.0.who) is in let place = seat.place in omega arith),
    )

pub exchange-requires : goal.exchange-requires
exchange-requires c =
    let t = c.compare_exchange.ensures.2.0 c.if-compare_exchange-eq0.true in
    let e = ap (λ (m : Sat). m.1) t.after in (
      c.compare_exchange.ensures.0 ∙ c.requires.gate
          ∙ sym c.self.view_is,
      (
        Some (run c.args.place.now.spot.me.0.opening t.journal),
        e
            ∙ ap (λ l. (0, Some (run c.args.place.now.spot.me.0.opening t.journal)) ∷ rest l) (sym e),
      ),
    )

pub returns-then-compare_exchange-eq0-clause-taken : goal.returns-then-compare_exchange-eq0-clause-taken
returns-then-compare_exchange-eq0-clause-taken c =
    let t = c.compare_exchange.ensures.2.0 c.if-compare_exchange-eq0.true in
    let s = c.exchange.ensures in
    let me = c.args.place.now.spot.me in
    let delay = c.args.place.now.after_ms in
    let desk = run me.0.opening t.journal in
    let z = c.exchange.new.seat.table_id in
    let me2 = c.exchange.new.seat.me in
    subst (λ (o : Option Run). MatchOption o
    (IsSeat c.args.who me2 × (seat_as z c.args.who delay me2 ≡ misses (seat_as c.args.place.now.spot.table_id c.args.who delay me)))
    (λ d. IsGuard c.args.who me2 d × Finds (seat_as c.args.place.now.spot.table_id c.args.who delay me) (seat_as z c.args.who delay me2)))
    (sym (run_is c.args.who me c.compare_exchange.new.seat.me me2 c.exchange.result c.requires.seat t s.2 s.3)) (
      held_is c.args.who me c.compare_exchange.new.seat.me me2 c.exchange.result c.requires.seat t s.2 s.3,
      finds_is c.args.who me c.compare_exchange.new.seat.me me2 c.exchange.result c.requires.seat t s.2 s.3 _ _ delay (s.0 ∙ c.compare_exchange.ensures.0),
    )
