use Rattle.std.proofs.Common.{rules, ◌∙◌}
use Rattle.std.proofs.lemmas.List.Sorted.{answers_always}
use Rattle.diag_store.proofs.SearchLemmas.{placed}
use Rattle.diag_store.proofs.search.find_place.Goals as goal

-- the closure gives a row's key
pub returns : goal.returns
returns g c =
    let facts = c.binary_search_by_key.ensures in
    let by_key = facts.position g.T.Keyed.key_of (answers_always _ _ _ (λ f a r q called. search rules)) in
    c.ok.ensures.value ∙ placed g.T.Keyed.key_of c.args.rows.now c.requires c.args.key c.binary_search_by_key.result facts.bound by_key
