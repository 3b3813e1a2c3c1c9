use Rattle.std.proofs.Common.{◌≡◌, ◌≤◌, ◌+◌, Some, Err, [], ◌∷◌, ◌++◌, refl, ap, subst, sym, ◌∙◌, length, map, take, drop, arith, append_assoc}
use Rattle.std.proofs.lemmas.List.{append-nil}
use Rattle.std.proofs.lemmas.Result.{err_from_is_err_and}
use Rattle.std.proofs.lemmas.Option.{slice_get_read, slice_get-map}
use Rattle.std.specs.Prelude.{slice_get}
use Rattle.std.specs.Option.{option_map}
use Rattle.diag_setup.specs.Setup.{link_of}
use Rattle.diag_setup.specs.declared.raw.RawSetup.{RawSetup}
use Rattle.diag_world.specs.Weaving.{first_of_each, steps_of}
use Rattle.diag_world.proofs.Headlines.{steps_grow}
use Rattle.diag_world.proofs.Rounds.{round_take, round_gives, round_ends, round_splits}
use Rattle.diag_world.proofs.taking.take_round.Goals.{then-round-len+in_ok-take_event, else-round-len}
use Rattle.diag_world.proofs.taking.take_round.Goals as goal

pub take_event-requires : goal.take_event-requires
take_event-requires g c =
    let begun = c.requires.begun in
    let who = c.who-who.ensures in
    let F = first_of_each 1 (take c.loop-index.index (map (drop c.args.round) (map (λ log. log.items) c.args.logs.now))) in
    record {
      in_setup = (
        begun.0,
        begun.1 ++ F,
        c.loop-index.invariant begun.0 begun.1 begun.3,
        omega (arith, who),
        omega (arith, who, c.loop-index-test.true, c.requires.logs, ap (λ (setup : RawSetup). length setup.testers) begun.2),
      );
    }

pub loop-index-preserved : goal.loop-index-preserved
loop-index-preserved g c = λ terms M h.
    let stands = c.loop-index.invariant terms M h in
    let logs = c.args.logs.now in
    let events = map (λ log. log.items) logs in
    let p = c.loop-index.index in
    let r = c.args.round in
    let log = c.index-logs-index.result in
    let found : slice_get logs p ≡ Some log = slice_get_read logs (length logs) p log refl c.loop-index-test.true c.index-logs-index.is in
    let more = round_take events r p log.items (slice_get-map (λ l. l.items) logs p ∙ ap (option_map (λ l. l.items)) found) in
    let F = first_of_each 1 (take p (map (drop r) events)) in
    elim c.if-round-len.branch [
      | then-round-len+in_ok-take_event w ↦ (
          let e = w.get.result in
          let who = w.who-who.result in
          let here : slice_get log.items r ≡ Some e = w.get.ensures in
          let grown = more ∙ ap (λ x. F ++ x) (round_gives (p + 1) log.items r e here
          ∙ ap (λ n. (n, e) ∷ []) (sym w.who-who.ensures)) in
          subst (λ x. g.T.TakeEvents.took x terms (M ++ first_of_each 1 (take (p + 1) (map (drop r) events)))) (sym w.taker-is)
          (subst (λ x. g.T.TakeEvents.took w.take_event.new.self terms x) (append_assoc M F ((who, e) ∷ []) ∙ ap (λ x. M ++ x) (sym grown))
          (w.in_ok-take_event.ensures.took terms (M ++ F) stands)))
      | else-round-len w ↦ (
          let past : length log.items ≤ r = omega (arith, w.if-round-len.false, c.len.ensures.count) in
          let same = more ∙ (ap (λ x. F ++ x) (round_ends (p + 1) log.items r past) ∙ append-nil F) in
          subst (λ x. g.T.TakeEvents.took x terms (M ++ first_of_each 1 (take (p + 1) (map (drop r) events)))) (sym w.taker-is)
          (subst (λ x. g.T.TakeEvents.took c.loop-index.taker terms x) (ap (λ x. M ++ x) (sym same)) stands))
    ]

pub returns-in_err-take_event-clause-full : goal.returns-in_err-take_event-clause-full
returns-in_err-take_event-clause-full g c = λ is terms M h.
    let fault = err_from_is_err_and c.from_residual.result c.from_residual.ensures.1 in
    let full = c.in_err-take_event.ensures.full (ap (λ f. Err f) (sym fault.2) ∙ (sym fault.1 ∙ is)) in
    let links = link_of (g.T.TakeEvents.setup_of terms) in
    let logs = c.args.logs.now in
    let events = map (λ log. log.items) logs in
    let p = c.loop-index.index in
    let r = c.args.round in
    let log = c.index-logs-index.result in
    let e = c.get.result in
    let who = c.who-who.result in
    let F = first_of_each 1 (take p (map (drop r) events)) in
    let found : slice_get logs p ≡ Some log = slice_get_read logs (length logs) p log refl c.loop-index-test.true c.index-logs-index.is in
    let here : slice_get log.items r ≡ Some e = c.get.ensures in
    let split = round_splits events r p log.items e (slice_get-map (λ l. l.items) logs p ∙ ap (option_map (λ l. l.items)) found) here in
    let taken = (M ++ F) ++ (who, e) ∷ [] in
    let all = ap (λ x. M ++ x) (split.1 ∙ ap (λ t. (F ++ (t, e) ∷ []) ++ split.0) (sym c.who-who.ensures))
    ∙ (sym (append_assoc M (F ++ (who, e) ∷ []) split.0) ∙ ap (λ x. x ++ split.0) (sym (append_assoc M F ((who, e) ∷ [])))) in
    omega (
      arith,
      full terms (M ++ F) (c.loop-index.invariant terms M h),
      steps_grow links taken split.0,
      ap (λ x. length (steps_of links x)) all,
    )
