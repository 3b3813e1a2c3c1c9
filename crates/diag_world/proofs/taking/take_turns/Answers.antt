use Rattle.std.proofs.Common.{◌≡◌, ◌≤◌, ◌+◌, ◌-◌, ◌++◌, Err, drop, ap, subst, sym, ◌∙◌, length, map, arith}
use Rattle.std.proofs.lemmas.Result.{err_from_is_err_and}
use Rattle.diag_setup.specs.Setup.{link_of}
use Rattle.diag_setup.specs.declared.raw.RawSetup.{RawSetup}
use Rattle.diag_world.specs.Weaving.{first_of_each, rounds, longest, steps_of}
use Rattle.diag_world.proofs.Headlines.{steps_grow}
use Rattle.diag_world.proofs.Rounds.{rounds_more, rounds_begin}
use Rattle.diag_world.proofs.taking.take_turns.Goals as goal

pub take_round-requires-clause-begun : goal.take_round-requires-clause-begun
take_round-requires-clause-begun g c =
    let begins = c.requires.begins in
    (begins.0, rounds c.loop-round.round (map (λ log. log.items) c.args.logs.now), begins.1, c.loop-round.invariant begins.0 begins.2)

pub loop-round-preserved : goal.loop-round-preserved
loop-round-preserved g c = λ terms h.
    let events = map (λ log. log.items) c.args.logs.now in
    subst (λ M. g.T.TakeEvents.took c.take_round.new.taker terms M) (sym (rounds_more c.loop-round.round events))
    (c.in_ok-take_round.ensures.took terms (rounds c.loop-round.round events) (c.loop-round.invariant terms h))

pub returns-clause-took : goal.returns-clause-took
returns-clause-took g c = λ terms h.
    let events = map (λ log. log.items) c.args.logs.now in
    let ended : c.loop-round.round ≡ longest events = omega (arith, c.longest-round-end.ensures) in
    subst (λ r. g.T.TakeEvents.took c.loop-round.taker terms (rounds r events)) ended (c.loop-round.invariant terms h)

pub returns-in_err-take_round-clause-full : goal.returns-in_err-take_round-clause-full
returns-in_err-take_round-clause-full g c = λ is.
    let begins = c.requires.begins in
    let fault = err_from_is_err_and c.from_residual.result c.from_residual.ensures.1 in
    let full = c.in_err-take_round.ensures.full (ap (λ f. Err f) (sym fault.2) ∙ (sym fault.1 ∙ is)) in
    let events = map (λ log. log.items) c.args.logs.now in
    let links = link_of c.args.setup.now in
    let r = c.loop-round.round in
    let more = full begins.0 (rounds r events) (c.loop-round.invariant begins.0 begins.2) in
    let all = rounds r events ++ first_of_each 1 (map (drop r) events) in
    let reach : r + 1 ≤ longest events = omega (arith, c.loop-round-test.true, c.longest-round-end.ensures) in
    let sum : longest events ≡ (r + 1) + (longest events - (r + 1)) = omega (arith, reach) in
    let rest = rounds_begin (r + 1) (longest events - (r + 1)) events in
    let whole = ap (λ n. rounds n events) sum ∙ (rest.1 ∙ ap (λ x. x ++ rest.0) (rounds_more r events)) in
    omega (
      arith,
      more,
      ap (λ (setup : RawSetup). length (steps_of (link_of setup) all)) begins.1,
      steps_grow links all rest.0,
      ap (λ x. length (steps_of links x)) whole,
    )
