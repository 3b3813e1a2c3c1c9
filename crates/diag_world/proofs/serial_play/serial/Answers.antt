use Rattle.std.proofs.Common.{Err, refl, ap, subst, sym, ◌∙◌, map}
use Rattle.std.proofs.lemmas.List.{length-map}
use Rattle.std.proofs.lemmas.Result.{err_from_is_err_and}
use Rattle.diag_world.specs.Headline.{IsPlay}
use Rattle.diag_world.specs.Weaving.{turns}
use Rattle.diag_world.proofs.Headlines.{headline, same_fault}
use Rattle.diag_world.proofs.serial_play.serial.Goals as goal

pub take_turns-requires-clause-begins : goal.take_turns-requires-clause-begins
take_turns-requires-clause-begins c = (c.args.setup.now, refl, c.in_ok-world.ensures)

pub returns-clause-played : goal.returns-clause-played
returns-clause-played c =
    let setup = c.args.setup.now in
    let events = map (λ log. log.items) c.args.logs.now in
    let left = c.in_ok-played.ensures in
    subst (λ d. IsPlay setup (turns events) events d (map (λ s. s.items) c.in_ok-played.played.sent.items)) (sym left.desk)
    (headline setup c.take_turns.new.taker (turns events) events _ c.interleaving_law.ensures (c.turns_law.ensures events)
    (c.in_ok-take_turns.ensures.took setup c.in_ok-world.ensures) (length-map c.args.logs.now (λ log. log.items) ∙ c.requires) left.sent)

pub returns-in_err-take_turns-clause-full : goal.returns-in_err-take_turns-clause-full
returns-in_err-take_turns-clause-full c = λ is.
    let fault = err_from_is_err_and c.from_residual-in_err-take_turns.result c.from_residual-in_err-take_turns.ensures.1 in
    c.in_err-take_turns.ensures.full (ap (λ f. Err f) (sym fault.2 ∙ same_fault _ _ c.from_residual-in_err-take_turns.result fault.1 is))
