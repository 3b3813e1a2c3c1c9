use Rattle.std.proofs.Common.{[], append-nil, subst, sym, refl, ◌∙◌}
use Rattle.std.proofs.lemmas.Result.{on_ok_weaker}
use Rattle.diag_bus.specs.ResponseIds.{AreResponsesOf}
use Rattle.diag_bus.specs.declared.response_ids.ResponseIds.{ResponseIds}
use Rattle.diag_bus.proofs.comparing.ComparisonsSink.end_line.Goals as goal

pub returns-clause-ended : goal.returns-clause-ended
returns-clause-ended c =
    on_ok_weaker c.take_line.result (λ takes. record {
      more = [];
      grown = sym (append-nil c.args.arg7.now.items);
      holds = λ lines line K ends taken. (takes lines line ends.says ends.taken.frames taken, refl);
    })
    c.take_line.ensures.ok

pub returns-clause-stays : goal.returns-clause-stays
returns-clause-stays c = (
  λ setup kept. (
    c.take_line.ensures.shape ∙ kept.0,
    subst (λ (ids : ResponseIds). AreResponsesOf setup ids) (sym c.take_line.ensures.responses) kept.1,
  ),
  refl,
)
