use Rattle.std.proofs.Common.{◌≡◌, Some, None, false, Bool, List, ap, subst, sym, ◌∙◌}
use Rattle.std.specs.List.{list_any}
use Rattle.std.specs.Prelude.{if◌then◌else◌}
use Rattle.diag_exchange.specs.declared.open.Open.{Open}
use Rattle.diag_exchange.specs.Over.{Unasked}
use Rattle.diag_exchange.specs.Streaming.{IsLast, hears_it, with_message}
use Rattle.diag_exchange.proofs.Finding.{any_last, changed_last}
use Rattle.diag_exchange.proofs.Lists.{change_none}
use Rattle.diag_exchange.proofs.exchanges.answer.Goals as goal

pub returns-in_ok-take-in-Some-clause-ok : goal.returns-in_ok-take-in-Some-clause-ok
returns-in_ok-take-in-Some-clause-ok c =
    let last = subst (λ (es : List Open). IsLast hears_it es (Some c.in-Some.index)) c.as_slice.ensures.value c.in-Some.ensures in
    changed_last hears_it
    (with_message c.args.heard) c.args.live.now.items c.in-Some.index c.index_mut.result.now
    c.take.new.self last c.index_mut.ensures.value c.in_ok-take-in-Some.ensures.ok

pub returns-in_ok-take-in-Some-clause-unasked : goal.returns-in_ok-take-in-Some-clause-unasked
returns-in_ok-take-in-Some-clause-unasked c =
    let last = subst (λ (es : List Open). IsLast hears_it es (Some c.in-Some.index)) c.as_slice.ensures.value c.in-Some.ensures in
    ap (λ (b : Bool). if b then None else Some (Unasked c.args.heard)) (sym (any_last hears_it c.args.live.now.items c.in-Some.index last))

pub returns-in_ok-unasked-in-None-clause-ok : goal.returns-in_ok-unasked-in-None-clause-ok
returns-in_ok-unasked-in-None-clause-ok c =
    let none : list_any hears_it c.args.live.now.items ≡ false = ap (list_any hears_it) (sym c.as_slice.ensures.value) ∙ c.in-None.ensures in
    sym (change_none hears_it (with_message c.args.heard) c.args.live.now.items none)
