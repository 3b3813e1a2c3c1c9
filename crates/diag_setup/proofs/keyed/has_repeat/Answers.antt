use Rattle.std.proofs.Common.{◌∙◌}
use Rattle.std.proofs.lemmas.List.Sorted.{IsNonDecreasingBy-from_sort}
use Rattle.diag_setup.specs.Setup.{itself}
use Rattle.diag_setup.proofs.SortLemmas.{has_repeat-moves, has_repeat-map}
use Rattle.diag_setup.proofs.keyed.has_repeat.Goals as goal

pub has_equal-requires : goal.has_equal-requires
has_equal-requires g c = IsNonDecreasingBy-from_sort itself _ c.sort_unstable.ensures.sorted

pub returns : goal.returns
returns g c =
    c.has_equal.ensures ∙ has_repeat-moves itself _ _ c.sort_unstable.ensures.permutation
    ∙ rw (c.as_mut_slice-sorted.ensures.value, c.keys_of-keys.ensures) (has_repeat-map g.T.Keyed.key_of c.args.rows.now)
