use Rattle.std.proofs.Common.{◌≡◌, [], ◌∷◌, Some, sym, ap, ◌∙◌, arith}
use Rattle.atomic_table.specs.Table.{rest}
use Rattle.diag_desk.specs.Legal.{Run}
use Rattle.diag_gate.specs.Views.{letting_go}
use Rattle.diag_gate.proofs.Keeps.{puts_back_as}
use Rattle.diag_gate.specs.Plays.{Sat}
use Rattle.diag_gate.proofs.Steps.{put_is}
use Rattle.diag_gate.proofs.gate.Gate.put.Goals as goal
use Rattle.diag_gate.proofs.gate.Gate.put.Goals.{After-drop}

carries : (c : After-drop) → c.exchange.new.seat.me ≡ (c.args.place.now.spot.me.0, (0, Some c.args.desk) ∷ [])
carries c = c.exchange.ensures.3 ∙ ap (λ (m : Sat). (c.args.place.now.spot.me.0, (0, Some c.args.desk) ∷ rest m.1)) c.requires.held.1.is

pub store-requires : goal.store-requires
store-requires c =
    let d = (goal.at.store-requires c).After-drop in
    let is = c.requires.held.1.is in
    let who_is = ap (λ (m : Sat). m.0.who) is in (
      c.exchange.ensures.0 ∙ c.requires.gate ∙ sym c.self.view_is,
      (let w = c.self.invariant.0 in omega arith),
      puts_back_as _ _ _ c.args.place.now.spot.me.0 c.args.desk c.requires.grown.0 (carries d) (ap (λ (m : Sat). m.0.is_seat) is)
          (ap (λ (m : Sat). m.0.holds) is) (c.requires.held.2 ∙ ap (λ (r : Run). r.opening) c.requires.held.1.desk) (ap (λ (m : Sat). m.0.live) is) c.lawful.ensures.legal
          c.requires.grown.1 (λ t n. c.requires.grown.2 t (λ e. n (e ∙ sym who_is))) c.self.invariant.1,
    )

pub returns-clause-seat : goal.returns-clause-seat
returns-clause-seat c =
    let d = (goal.at.returns-clause-seat c).After-drop in
    let after = c.store.ensures.2 c.args.desk (ap (λ (m : Sat). m.1) (carries d)) ∙ (λ i. (letting_go (ap (λ (m : Sat). m.0) (carries d) i) c.args.desk, [])) in
    put_is c.args.who c.args.place.now.spot.me c.store.new.seat.me c.requires.held.0 c.args.desk c.requires.held.1 after

pub returns-clause-put : goal.returns-clause-put
returns-clause-put c =
    let d = (goal.at.returns-clause-put c).After-drop in
    ap (λ (m : Sat). m.0) (c.store.ensures.2 c.args.desk (ap (λ (m : Sat). m.1) (carries d))) ∙ ap (λ (m : Sat). letting_go m.0 c.args.desk) (carries d)
