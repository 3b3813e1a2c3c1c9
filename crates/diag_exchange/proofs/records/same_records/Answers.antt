use Rattle.std.proofs.Common.{ap₂, ◌∙◌}
use Rattle.std.specs.Cmp.Lexicographic.{pointwise}
use Rattle.std.specs.Str.{bytes_eq}
use Rattle.diag_exchange.specs.Agreeing.{same_records}
use Rattle.diag_exchange.proofs.Sorted.{sorted_same}
use Rattle.diag_exchange.proofs.records.same_records.Goals as goal

pub returns : goal.returns
returns c =
    c.eq.ensures ∙ (ap₂ (pointwise (λ x y. bytes_eq x.now y.now)) c.as_slice.ensures.value c.as_slice-2.ensures.value
    ∙ (sorted_same c.in_ok-ones.ones.items c.in_ok-others.others.items c.sort_unstable.new.self.items c.sort_unstable-2.new.self.items
    c.sort_unstable.ensures.permutation c.sort_unstable-2.ensures.permutation c.sort_unstable.ensures.sorted c.sort_unstable-2.ensures.sorted
    ∙ ap₂ same_records c.in_ok-ones.ensures c.in_ok-others.ensures))
