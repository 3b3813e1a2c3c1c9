use Rattle.std.proofs.Common.{◌∙◌, sym, ap}
use Rattle.std.specs.Prelude.{find}
use Rattle.diag_store.specs.Answers.{applies}
use Rattle.diag_store.proofs.SearchLemmas.{found_at, found_nowhere}
use Rattle.diag_store.proofs.answers.Answers.row_for.Goals as goal

-- the row that is found is the one at its index
pub returns-in-Some-clause-row : goal.returns-in-Some-clause-row
returns-in-Some-clause-row c =
    let test = applies c.args.access c.args.p.now in
    found_at test c.as_slice-rows.result.now c.in-Some.index c.index-rows-index.result (sym c.index_in.ensures ∙ c.in-Some.is) c.index-rows-index.is
    ∙ ap (find test) (cc)

pub returns-in-None-clause-row : goal.returns-in-None-clause-row
returns-in-None-clause-row c =
    let test = applies c.args.access c.args.p.now in
    found_nowhere test c.as_slice-rows.result.now (sym c.index_in.ensures ∙ c.in-None.is) ∙ ap (find test) (cc)
