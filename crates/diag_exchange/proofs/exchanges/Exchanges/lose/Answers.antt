use Rattle.std.proofs.Common.{◌++◌, None, false, List, map, ap, ap₂, refl, ◌∙◌}
use Rattle.std.specs.List.{filter}
use Rattle.diag_exchange.specs.Streaming.{goes_on, is_done, told}
use Rattle.diag_exchange.specs.declared.happening.Happening.TheVariants.{Lost}
use Rattle.diag_exchange.specs.Over.{Over}
use Rattle.diag_exchange.proofs.Taking.{took_as}
use Rattle.diag_exchange.proofs.exchanges.Exchanges.lose.Goals as goal

pub returns-clause-ok : goal.returns-clause-ok
returns-clause-ok c = λ hs s.
    took_as c.args.self.now.live.items c.args.self.now.coming Lost c.take_out.new.live.items None c.args.over.now.items c.take_out.new.over.items tt hs s
    (c.take_out.ensures.live ∙ ap (filter (goes_on false)) c.hear_no_more.ensures.items)
    refl
    (c.take_out.ensures.over ∙ ap₂ (λ (xs ys : List Over). xs ++ ys) c.reserve.ensures.items
    (ap (λ xs. map told (filter (is_done false) xs)) c.hear_no_more.ensures.items))
