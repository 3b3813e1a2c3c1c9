use Rattle.std.proofs.Common.{◌≡◌, ◌≤◌, ◌++◌, List, length, map, take, ap, ◌∙◌, arith}
use Rattle.std.proofs.lemmas.List.{take_all}
use Rattle.std.specs.List.{filter}
use Rattle.diag_exchange.specs.declared.open.Open.{Open}
use Rattle.diag_exchange.specs.Asking.{courses}
use Rattle.diag_exchange.specs.Exchanges.{is_open}
use Rattle.diag_exchange.specs.Streaming.{told}
use Rattle.diag_exchange.proofs.Taking.{told_kept}
use Rattle.diag_exchange.proofs.exchanges.Exchanges.left.Goals as goal

pub returns-clause-ok : goal.returns-clause-ok
returns-clause-ok c = λ hs s.
    let live = c.args.self.now.live.items in
    let same : c.deref-open-items.result.now ≡ live = c.deref-open-items.ensures.value in
    let long : length live ≤ c.loop-open.open-index = omega (arith, ap length same, c.loop-open-test.false) in
    let all : take c.loop-open.open-index live ≡ live = take_all c.loop-open.open-index live long in
    c.loop-open.invariant ∙ ap (λ (w : List Open). c.args.over.now.items ++ map told w) all
    ∙ ap (λ w. c.args.over.now.items ++ w) (ap (map told) s.are_open ∙ told_kept (filter is_open (courses hs)))
