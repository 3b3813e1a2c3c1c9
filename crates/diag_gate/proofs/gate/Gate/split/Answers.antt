use Rattle.std.proofs.Common.{◌≡◌, ◌<◌, sym, ap, ◌∙◌, arith}
use Rattle.diag_gate.proofs.Keeps.{names_next, gives_seat}
use Rattle.diag_gate.specs.Plays.{Sat}
use Rattle.diag_gate.proofs.Hosts.{host_has, named_has, gave_is}
use Rattle.diag_gate.proofs.gate.Gate.split.Goals as goal

pub compare_exchange-requires : goal.compare_exchange-requires
compare_exchange-requires c =
    let is = c.host.invariant.0.is in
    let same = ap (λ h. h.gate) c.host.view_is ∙ c.requires ∙ sym c.self.view_is in
    (same, (let w = c.self.invariant.0 in omega arith), names_next _ _ _ _ (ap (λ (m : Sat). m.0.is_seat) is) (ap (λ (m : Sat). m.0.holds) is))

pub split_seat-spot-requires : goal.split_seat-spot-requires
split_seat-spot-requires c =
    let is = c.host.invariant.0.is in
    let same = ap (λ h. h.gate) c.host.view_is ∙ c.requires ∙ sym c.self.view_is in
    let after = c.compare_exchange.ensures.2 in
    let at_is = c.from-at.ensures ∙ c.number.ensures.same in
    let named_is = c.from-named.ensures ∙ c.number-2.ensures.same in
    let low : c.args.who < 9 = let p = c.number.ensures in omega arith in
    let has = host_has c.host.inside.place.me c.host.inside.given c.host.inside.home c.host.invariant.0 c.args.who low
    (sym (ap (λ t. Rattle.std.proofs.Common.get_or c.host.inside.given t Rattle.std.proofs.Common.false) at_is) ∙ c.if-host-at.false) in (
      c.compare_exchange.ensures.0 ∙ same,
      (let w = c.self.invariant.0 in omega arith),
      gives_seat _ _ has.0 (ap (λ (m : Sat). m.0.is_seat) after ∙ ap (λ (m : Sat). m.0.is_seat) is)
          (ap (λ (m : Sat). m.0.holds) after ∙ ap (λ (m : Sat). m.0.holds) is) (ap (λ (m : Sat). m.0.live) after ∙ ap (λ (m : Sat). m.0.live) is)
          (named_has _ _ _ c.host.invariant.0 _ _ _ low named_is at_is _ _ after Rattle.std.proofs.Common.refl has.0 has.1),
    )

pub returns-clause-some : goal.returns-clause-some
returns-clause-some c =
    let s = c.split_seat-spot.ensures in
    let at_is = c.from-at.ensures ∙ c.number.ensures.same in
    let named_is = c.from-named.ensures ∙ c.number-2.ensures.same in
    let low : c.args.who < 9 = let p = c.number.ensures in omega arith in
    gave_is c.host.inside.place.me c.host.inside.given c.host.inside.home c.host.invariant.0 c.args.who _ _ low named_is at_is _ _
    c.compare_exchange.ensures.2 s.2
    c.args.host.now _ _ _ _ c.host.view_is c.if-host-at.false s.4 (s.0 ∙ c.compare_exchange.ensures.0) (s.3 ∙ c.compare_exchange.ensures.0)
