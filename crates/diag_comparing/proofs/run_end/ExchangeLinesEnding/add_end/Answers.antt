use Rattle.std.proofs.Common.{ℕ, List, Ok, ap₂, sym}
use Rattle.diag_run.specs.Wanted.{end_with}
use Rattle.diag_comparing.proofs.run_end.ExchangeLinesEnding.add_end.Goals as goal

pub returns-in-Ok-clause-ok : goal.returns-in-Ok-clause-ok
returns-in-Ok-clause-ok c =
    let added = c.in-Ok.ensures.ok in
    record {
      more = added.more;
      grown = added.grown;
      holds = λ lines took ecu. ap₂ (λ (w : List ℕ) n. Ok (end_with w n)) (sym (added.holds lines took)) (sym (c.in-Ok.ensures.status lines took));
    }
