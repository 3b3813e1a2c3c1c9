use Rattle.std.proofs.Common.{◌≡◌, Some, false, List, ap, subst, sym, ◌∙◌}
use Rattle.std.specs.List.{list_any}
use Rattle.diag_exchange.specs.declared.open.Open.{Open}
use Rattle.diag_exchange.specs.Streaming.{IsLast, hears_it, hears_no_more}
use Rattle.diag_exchange.proofs.Finding.{changed_last}
use Rattle.diag_exchange.proofs.Lists.{change_none}
use Rattle.diag_exchange.proofs.exchanges.hear_no_more.Goals as goal

pub returns-in-Some-clause-items : goal.returns-in-Some-clause-items
returns-in-Some-clause-items c =
    let last = subst (λ (es : List Open). IsLast hears_it es (Some c.in-Some.index)) c.as_slice.ensures.value c.in-Some.ensures in
    changed_last hears_it hears_no_more c.args.live.now.items c.in-Some.index c.index_mut.result.now
    c.hear_no_more.new.self last c.index_mut.ensures.value c.hear_no_more.ensures

pub returns-in_default-clause-items : goal.returns-in_default-clause-items
returns-in_default-clause-items c =
    let none : list_any hears_it c.args.live.now.items ≡ false = ap (list_any hears_it) (sym c.as_slice.ensures.value) ∙ c.in_default.ensures in
    sym (change_none hears_it hears_no_more c.args.live.now.items none)
