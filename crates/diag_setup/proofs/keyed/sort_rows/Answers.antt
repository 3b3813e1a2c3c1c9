use Rattle.std.proofs.Common.{rules}
use Rattle.std.proofs.lemmas.List.Sorted.{IsNonDecreasingBy-from_sort_by_key}
use Rattle.diag_setup.proofs.SortLemmas.{sort-gives}
use Rattle.diag_setup.proofs.keyed.sort_rows.Goals as goal

pub returns : goal.returns
returns g c =
    let up = IsNonDecreasingBy-from_sort_by_key g.T.Keyed.key_of _ c.sort_unstable_by_key.ensures.sorted (λ a r q k. search rules) in
    sort-gives g.T.Keyed.key_of c.args.rows.now c.sort_unstable_by_key.new.self c.requires c.sort_unstable_by_key.ensures.permutation up
