use Rattle.std.proofs.Common.{◌≡◌, arith, rules}
use Rattle.std.proofs.lemmas.Fn.{always_returns_same}
use Rattle.std.proofs.lemmas.List.Sorted.{IsNonDecreasingBy-from_sort_by_key}
use Rattle.diag_bus.proofs.Order.{sorted_is, stable_of}
use Rattle.diag_comparing.specs.Keeping.{judged_number}
use Rattle.diag_comparing.proofs.Lines.{few_in_order}
use Rattle.diag_comparing.proofs.telling.sort.Goals as goal

pub returns-then-len-lt2 : goal.returns-then-len-lt2
returns-then-len-lt2 c = few_in_order c.args.batch.now.items (omega (arith, c.if-len-lt2.true, c.len.ensures, c.args.batch.now.ok))

pub returns : goal.returns
returns c =
    let up = IsNonDecreasingBy-from_sort_by_key judged_number _ c.in_ok-sort_by_key.ensures.sorted (λ a r q k. search rules) in
    sorted_is judged_number c.args.batch.now.items c.sort_by_key.new.self.items up
    (stable_of judged_number c.args.batch.now.items c.sort_by_key.new.self.items
    (c.in_ok-sort_by_key.ensures.stable judged_number (always_returns_same _ (λ a r. r ≡ judged_number a.0.now) _ (λ a r q k. search rules))))
