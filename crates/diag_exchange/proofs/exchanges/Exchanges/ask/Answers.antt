use Rattle.std.proofs.Common.{◌≡◌, ◌++◌, ◌∷◌, [], true, List, map, ap, ap₂, refl, ◌∙◌}
use Rattle.std.specs.List.{filter}
use Rattle.diag_exchange.specs.Streaming.{asked_again, goes_on, is_done, told}
use Rattle.diag_exchange.specs.declared.happening.AskedRequest.{AskedRequest}
use Rattle.diag_exchange.specs.declared.happening.Happening.TheVariants.{Asked}
use Rattle.diag_exchange.specs.Over.{Over}
use Rattle.diag_exchange.specs.declared.open.Open.{Open}
use Rattle.diag_exchange.proofs.Taking.{took_as}
use Rattle.diag_exchange.proofs.exchanges.Exchanges.ask.Goals as goal

pub returns-clause-ok : goal.returns-clause-ok
returns-clause-ok c = λ hs s.
    let es = c.args.self.now.live.items in
    let request = c.args.asked.request in
    let same : c.get.result.now.request ≡ request = ap (λ (e : Open). e.request) c.get.ensures in
    let moved : c.ask_again.new.live.items ≡ map (asked_again request) es =
    c.ask_again.ensures.items ∙ ap₂ (λ (r : AskedRequest) (xs : List Open). map (asked_again r) xs) same c.reserve-2.ensures.items in
    took_as es c.args.self.now.coming
    (Asked request) c.push_reserved.new.self.items c.args.self.now.coming c.args.over.now.items c.take_out.new.over.items tt hs s
    (c.push_reserved.ensures.items ∙ ap₂ (λ (xs : List Open) (x : Open). xs ++ x ∷ []) (c.take_out.ensures.live
    ∙ ap (filter (goes_on true)) moved) c.requires)
    refl
    (c.take_out.ensures.over ∙ ap₂ (λ (xs ys : List Over). xs ++ ys) c.reserve.ensures.items (ap (λ xs. map told (filter (is_done true) xs)) moved))
