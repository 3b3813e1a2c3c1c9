use Rattle.std.proofs.Common.{Err, ap, sym, ◌∙◌, map, refl}
use Rattle.std.proofs.lemmas.List.{length-map}
use Rattle.std.proofs.lemmas.Result.{err_from_is_err_and}
use Rattle.diag_ecu.specs.State.{opening}
use Rattle.diag_world.specs.Weaving.{turns}
use Rattle.diag_world.proofs.Headlines.{headline, same_fault}
use Rattle.diag_run.specs.Playing.{Plays, Terms}
use Rattle.diag_run.proofs.Written.{all_sent, parts_whole, stands_at, world_at}
use Rattle.diag_run.proofs.serial.serial_text.Goals as goal

pub take_turns-requires-clause-begins : goal.take_turns-requires-clause-begins
take_turns-requires-clause-begins c =
    let terms : Terms = record { setup = c.args.setup.now; only_journal = c.args.only_journal; timing = c.args.timing } in
    (terms, refl, (c.in_ok-playing.ensures.ready, c.in_ok-playing.ensures.plays))

pub returns-clause-played : goal.returns-clause-played
returns-clause-played c =
    let terms : Terms = record { setup = c.args.setup.now; only_journal = c.args.only_journal; timing = c.args.timing } in
    let events = map (λ log. log.items) c.args.logs.now in
    let playing = c.take_turns.new.taker in
    let M = turns events in
    let h : Plays terms playing M = (c.in_ok-take_turns.ensures.took terms (c.in_ok-playing.ensures.ready, c.in_ok-playing.ensures.plays)).1 in
    record {
      desk = record { opening = opening terms.setup; journal = h.entries };
      sent = all_sent terms M h.entries;
      play = headline terms.setup (world_at terms playing M h.entries) M events (all_sent terms M h.entries) c.interleaving_law.ensures
          (c.turns_law.ensures events) (stands_at terms playing M h)
          (length-map c.args.logs.now (λ log. log.items) ∙ c.requires) refl;
      is = c.in_ok-parts.ensures ∙ parts_whole terms playing M h;
    }

pub returns-in_err-take_turns-clause-full : goal.returns-in_err-take_turns-clause-full
returns-in_err-take_turns-clause-full c = λ is.
    let fault = err_from_is_err_and c.from_residual-in_err-take_turns.result c.from_residual-in_err-take_turns.ensures.1 in
    c.in_err-take_turns.ensures.full (ap (λ f. Err f) (sym fault.2 ∙ same_fault _ _ c.from_residual-in_err-take_turns.result fault.1 is))
