use Rattle.std.proofs.Common.{◌≡◌, ◌+◌, ◌-◌, ◌<◌, ◌≤◌, refl, [], ◌∷◌, ◌++◌, subst, sym, ap, ◌∙◌, append_assoc, arith}
use Rattle.std.proofs.lemmas.List.{append-nil}
use Rattle.diag_can.specs.Event.{Ticks}
use Rattle.diag_tp.specs.Moments.{moments}
use Rattle.diag_port.specs.Port.{PortFor, HandedOut, port_of}
use Rattle.diag_port.proofs.PortLemmas.{no_ticks, port_handed, port_moments}
use Rattle.diag_port.proofs.Within.{within_none, within_append, within_wider, time_moved}
use Rattle.diag_port.proofs.passing.pass_in_moves.Goals as goal

pub loop-left-init : goal.loop-left-init
loop-left-init c =
    let left = c.get-left.ensures.value in
    let done = c.args.count - c.get-left.result in
    let zero : done ≡ 0 = omega (arith, left) in
    record {
      range = omega (arith, left);
      rest = c.requires.rest;
      pace = refl;
      room = c.requires.room;
      began = λ same. refl;
      time = λ less. absurd (omega (arith, less, left));
      later = omega arith;
      grew = record {
        more = [];
        grown = sym (append-nil c.args.out.now.items);
        holds = (
          within_none _ _,
          λ s E L Q st time. (
            subst (λ Q'. PortFor s (port_of c.args.port.now) (E ++ Ticks done ∷ []) L Q') (sym (append-nil Q))
                (port_moments c.moments_law.ensures s (port_of c.args.port.now) E (E ++ Ticks done ∷ []) L Q (no_ticks E done zero) st),
            λ less. absurd (omega (arith, less, left)),
          ),
        );
      };
    }

pub loop-left-preserved : goal.loop-left-preserved
loop-left-preserved c =
    let inv = c.loop-left.invariant in
    let before = c.args.count - c.loop-left.left in
    let after = c.args.count - (c.loop-left.left - c.min-most.result) in
    let part = c.in-Some.part in
    let is : part ≡ c.min-most.result = c.in-Some.ensures.value in
    let some = c.quiet.ensures.some in
    let grown : before + part ≡ after = omega (arith, is, inv.range, c.min-most.ensures, c.from.ensures) in
    let more = inv.grew.more in
    let now = c.move_on.ensures.passed.more in
    let old = c.loop-left.port in
    let new = c.move_on.new.port in
    let start = c.args.port.now.link.state.now in
    let moved_on = c.move_on.ensures.time in
    let times = c.move_on.ensures.passed.holds.0 in
    let on : old.link.state.now ≤ new.link.state.now = omega (arith, moved_on, c.move_on.ensures.later) in
    record {
      range = omega (arith, inv.range);
      rest = c.move_on.ensures.rest;
      pace = c.move_on.ensures.pace ∙ inv.pace;
      room = c.move_on.ensures.room;
      began = λ same. absurd (omega (arith, same, inv.range, c.min-most.ensures, some, c.from.ensures));
      time = λ less. time_moved start old.link.state.now new.link.state.now c.args.count
          c.loop-left.left c.min-most.result part
          inv.range (omega (arith, c.min-most.ensures, c.from.ensures)) (omega (arith, c.min-most.ensures, some, c.from.ensures)) is
          inv.began inv.time moved_on;
      later = omega (arith, inv.later, on);
      grew = record {
        more = more ++ now;
        grown = c.move_on.ensures.passed.grown ∙ (ap (λ w. w ++ now) inv.grew.grown ∙ append_assoc c.args.out.now.items more now);
        holds = (
          within_append start new.link.state.now more now
              (within_wider start old.link.state.now start new.link.state.now more inv.grew.holds.0 (omega arith) on)
              (within_wider old.link.state.now new.link.state.now start new.link.state.now now times inv.later (omega arith)),
          λ s E L Q st time.
              let h = inv.grew.holds.1 s E L Q st time in
              let clock = c.time_law.ensures.ticks E before in
              let moved = c.move_on.ensures.passed.holds.1 s (E ++ Ticks before ∷ []) L (Q ++ more) h.0 (omega (arith, clock, grown, time, inv.range)) in
              let same = c.time_law.ensures.sum E before part ∙ ap (λ n. moments (E ++ Ticks n ∷ [])) grown in
              let here = port_handed c.moments_law.ensures s (port_of new) _ (E ++ Ticks after ∷ []) L ((Q ++ more) ++ now) same moved in (
                subst (λ Q'. PortFor s (port_of new) (E ++ Ticks after ∷ []) L Q') (append_assoc Q more now) here.stands,
                λ less. sym (append_assoc Q more now) ∙ here.all,
              ),
        );
      };
    }

pub returns-clause-passed : goal.returns-clause-passed
returns-clause-passed c =
    let inv = c.loop-left.invariant in
    let grew = inv.grew in
    let some = c.get-left.ensures.in_range in
    let less : c.loop-left.left < c.args.count = omega (arith, c.loop-left-test.false, some.0) in
    let all : c.args.count - c.loop-left.left ≡ c.args.count = omega (arith, c.loop-left-test.false) in
    record {
      more = grew.more;
      grown = grew.grown;
      holds = (
        grew.holds.0,
        λ s E L Q st time.
            let old = grew.holds.1 s E L Q st time in
            subst (λ n. HandedOut s (port_of c.loop-left.port) (E ++ Ticks n ∷ []) L (Q ++ grew.more)) all (record { stands = old.0; all = old.1 less }),
      );
    }
