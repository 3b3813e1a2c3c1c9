use Rattle.std.proofs.Common.{◌≡◌, ◌<◌, ◌+◌, ◌∷◌, [], ◌++◌, min, ap, subst, sym, ◌∙◌, arith}
use Rattle.std.proofs.lemmas.List.{append-nil}
use Rattle.diag_can.specs.Event.{Ticks}
use Rattle.diag_tp.specs.Moments.{history, last_time}
use Rattle.diag_tp.specs.Wire.{wire}
use Rattle.diag_tp.specs.Link.{StandsFor, last_tick, quiet_later}
use Rattle.diag_port.specs.Held.{until_due}
use Rattle.diag_port.specs.Late.{placed_late}
use Rattle.diag_port.specs.Port.{HandedOut, PortState}
use Rattle.diag_port.proofs.PortLemmas.{asked_on, goes_quietly, later_due, not_due_within}
use Rattle.diag_port.proofs.Quiet.{all_out}
use Rattle.diag_port.proofs.Within.{within_none}
use Rattle.diag_port.proofs.port.Port.advance_quietly.Goals as goal

pub returns-clause-passed : goal.returns-clause-passed
returns-clause-passed c =
    let n = c.args.count in
    let old = c.args.self.now in
    let new = c.advance_quietly.new.self in (
      within_none _ _,
      λ s E L Q h time.
          let E' = E ++ Ticks n ∷ [] in
          let A = placed_late (history E) 0 L in
          let clock : old.link.state.now ≡ last_time E = h.stands.now ∙ omega (arith, time) in
          let few : n < until_due (last_time E) old.held.messages = subst (λ t. n < until_due t old.held.messages) clock (omega (arith, c.requires.quiet)) in
          let goes = goes_quietly E L n old.held.messages h.asked h.held few in
          let moved = c.advance_quietly.ensures.stands s E A Q h.stands in
          let all = all_out s new.state E' A Q moved c.advance_quietly.ensures.drained in
          let after : PortState = record { link = new.state; held = old.held.messages; pace = old.pace } in
          let whole : HandedOut s after E' L Q = record {
            stands = record {
              stands = subst (λ x. StandsFor s new.state E' x Q) (sym goes.placed) moved;
              held = sym goes.held;
              asked = asked_on E n L h.asked;
            };
            all = all ∙ ap (wire s E') (sym goes.placed);
          } in
          subst (λ q. HandedOut s after E' L q) (sym (append-nil Q)) whole,
    )

pub returns-clause-rest : goal.returns-clause-rest
unfolding quiet_later
returns-clause-rest c =
    let old = c.args.self.now in
    let n = c.args.count in
    let now : c.advance_quietly.new.self.state.now ≡ min (old.link.state.now + n) last_tick = ap (λ v. v.state.now) c.advance_quietly.ensures.later in
    let room = ap (λ v. v.reply_room) c.advance_quietly.ensures.later in
    let due = not_due_within old.link.state.now n old.held.messages (omega (arith, c.requires.quiet)) in
    record {
      drained = c.advance_quietly.ensures.drained;
      none_due = later_due (old.link.state.now + n) c.advance_quietly.new.self.state.now old.held.messages (omega (arith, now)) due;
      rooms = omega (arith, c.requires.rest.rooms, room);
    }
