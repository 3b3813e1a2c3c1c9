use Rattle.std.proofs.Common.{◌≡◌, ℕ, List, ◌++◌, Ok, IfSome, ap, ap₂, refl, subst, sym, ◌∙◌}
use Rattle.diag_bus.specs.Verdict.{verdict_text}
use Rattle.diag_run.specs.Wanted.{end_with, judged_by}
use Rattle.diag_run.proofs.Judging.{ok_line, told_otherwise}
use Rattle.diag_run.proofs.ending.ComparisonsEnding.add_end.Goals as goal

pub returns-in_ok-extend_from_slice-in-Agrees-clause-ok : goal.returns-in_ok-extend_from_slice-in-Agrees-clause-ok
returns-in_ok-extend_from_slice-in-Agrees-clause-ok c =
    let setup = c.args.setup.now in
    let agreed = c.in_ok-agreed-in-Agrees.agreed in
    record {
      more = agreed.items;
      grown = c.in_ok-extend_from_slice-in-Agrees.ensures.items ∙ ap (λ w. c.args.text.now.items ++ w) c.as_slice.ensures.value;
      holds = λ lines took ecu. ap (judged_by setup lines) (sym (c.in-Ok.ensures.ok lines took) ∙ c.in-Agrees.is)
          ∙ ap₂ (λ (w : List ℕ) n. Ok (end_with w n)) (sym (c.in_ok-agreed-in-Agrees.ensures lines took)) (sym (c.agreement_status.ensures lines took));
    }

pub returns-in_default-verdict : goal.returns-in_default-verdict
returns-in_default-verdict c =
    let setup = c.args.setup.now in
    let v = c.in-Ok.verdict in
    record {
      ok = tt;
      err = (
        verdict_text setup v,
        subst (λ o. IfSome o (λ t. t.items ≡ verdict_text setup v)) (sym c.ok-told.ensures.value) (ok_line c.verdict_text.result (verdict_text setup v) c.verdict_text.ensures),
        λ lines took ecu. ap (judged_by setup lines) (sym (c.in-Ok.ensures.ok lines took)) ∙ told_otherwise setup lines v c.in_default-verdict.not-Agrees,
      );
      kept = refl;
    }

pub returns-in_default : goal.returns-in_default
returns-in_default c =
    let setup = c.args.setup.now in
    let other = c.in_default.ensures.err in
    record {
      ok = tt;
      err = (
        verdict_text setup other.0,
        tt,
        λ lines took ecu. ap (judged_by setup lines) (sym (other.2 lines took)) ∙ told_otherwise setup lines other.0 other.1,
      );
      kept = refl;
    }
