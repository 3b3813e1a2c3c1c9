use Rattle.std.proofs.Common.{◌==◌, ◌∙◌, sym}
use Rattle.diag_store.proofs.SearchLemmas.{found_at, found_nowhere}
use Rattle.diag_store.proofs.search.find_row.Goals as goal

-- the row that is found is the one at the index
pub returns-in-Some : goal.returns-in-Some
returns-in-Some g c = found_at (λ (row : g.row.T.Denot). g.T.Keyed.key_of row == c.args.key) c.args.rows.now c.in-Some.place c.index-rows-place.result
    (sym c.find_place.ensures ∙ c.in-Some.is) c.index-rows-place.is

pub returns-in-None : goal.returns-in-None
returns-in-None g c = found_nowhere (λ (row : g.row.T.Denot). g.T.Keyed.key_of row == c.args.key) c.args.rows.now (sym c.find_place.ensures ∙ c.in-None.is)
