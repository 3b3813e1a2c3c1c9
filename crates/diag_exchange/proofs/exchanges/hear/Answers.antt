use Rattle.std.proofs.Common.{◌≡◌, Some, arith, false, true, Bool, List, ap, subst, sym, ◌∙◌}
use Rattle.std.specs.List.{list_any}
use Rattle.std.specs.Prelude.{if◌then◌else◌}
use Rattle.diag_exchange.specs.declared.open.Open.{Open}
use Rattle.diag_exchange.specs.Asking.{change_last}
use Rattle.diag_exchange.specs.Streaming.{IsLast, hearing, may_hear}
use Rattle.diag_exchange.proofs.Finding.{any_last, changed_last, within_last}
use Rattle.diag_exchange.proofs.Lists.{change_none}
use Rattle.diag_exchange.proofs.exchanges.hear.Goals as goal

pub returns-in-Some-clause-items : goal.returns-in-Some-clause-items
returns-in-Some-clause-items c =
    let es = c.args.live.now.items in
    let loud = may_hear true c.args.start.now in
    let silent = may_hear false c.args.start.now in
    let last = subst (λ (es : List Open). IsLast loud es (Some c.in-Some.index)) c.as_slice.ensures.value c.in-Some.ensures in
    changed_last loud hearing es c.in-Some.index c.index_mut.result.now c.hear.new.self last c.index_mut.ensures.value c.hear.ensures
    ∙ ap (λ (b : Bool). if b then change_last loud hearing es else change_last silent hearing es) (sym (any_last loud es c.in-Some.index last))

pub index_mut-requires-in-Some-latest : goal.index_mut-requires-in-Some-latest
index_mut-requires-in-Some-latest c =
    let silent = may_hear false c.args.start.now in
    let last = subst (λ (es : List Open). IsLast silent es (Some c.in-Some-latest.index)) c.as_slice-2.ensures.value c.in-Some-latest.ensures in
    omega (arith, within_last silent c.args.live.now.items c.in-Some-latest.index last, c.args.live.now.ok)

pub returns-in-Some-latest-clause-items : goal.returns-in-Some-latest-clause-items
returns-in-Some-latest-clause-items c =
    let es = c.args.live.now.items in
    let loud = may_hear true c.args.start.now in
    let silent = may_hear false c.args.start.now in
    let last = subst (λ (es : List Open). IsLast silent es (Some c.in-Some-latest.index)) c.as_slice-2.ensures.value c.in-Some-latest.ensures in
    let none : list_any loud es ≡ false = ap (list_any loud) (sym c.as_slice.ensures.value) ∙ c.in_default.ensures in
    changed_last silent hearing es c.in-Some-latest.index c.index_mut-in-Some-latest.result.now
    c.hear-in-Some-latest.new.self last c.index_mut-in-Some-latest.ensures.value c.hear-in-Some-latest.ensures
    ∙ ap (λ (b : Bool). if b then change_last loud hearing es else change_last silent hearing es) (sym none)

pub returns-in_default-latest-clause-items : goal.returns-in_default-latest-clause-items
returns-in_default-latest-clause-items c =
    let es = c.args.live.now.items in
    let loud = may_hear true c.args.start.now in
    let silent = may_hear false c.args.start.now in
    let none : list_any loud es ≡ false = ap (list_any loud) (sym c.as_slice.ensures.value) ∙ c.in_default.ensures in
    let neither : list_any silent es ≡ false = ap (list_any silent) (sym c.as_slice-2.ensures.value) ∙ c.in_default-latest.ensures in
    sym (ap (λ (b : Bool). if b then change_last loud hearing es else change_last silent hearing es) none ∙ change_none silent hearing es neither)
