use Rattle.std.proofs.Common.{◌≡◌, ℕ, List, [], Option, Some, None, ap, subst, sym, ◌∙◌}
use Rattle.std.proofs.lemmas.Result.{on_ok_weaker}
use Rattle.std.specs.Prelude.{option_copied, OnOk}
use Rattle.diag_can.specs.Log.{waited}
use Rattle.diag_exchange.specs.Over.{Over}
use Rattle.diag_listen.specs.Listening.{Hears}
use Rattle.diag_judge.specs.Judging.{HearsLine, bytes_in}
use Rattle.diag_judge.proofs.Lines.{line_heard, nothing_heard}
use Rattle.diag_judge.proofs.tester.Tester.hear.Goals as goal

pub returns-in-Some-clause-heard : goal.returns-in-Some-clause-heard
returns-in-Some-clause-heard c =
    let own = c.args.self.now.listener in
    let entered = c.args.self.now.entered.items in
    let asked = c.hear_requests.new.listener in
    let later = c.hear_requests.new.over.items in
    let is : bytes_in (option_copied c.args.frame) ≡ Some c.in-Some.frame.now.bytes = ap (λ f. bytes_in (option_copied f)) c.in-Some.is in
    let time = subst
    (λ (os : List Over). Hears own c.wait.new.self os c.wait.new.over.items c.args.at (waited c.args.span)) c.empty.ensures c.in_ok-wait.ensures.heard in
    subst
    (λ (frame : Option (List ℕ)). OnOk c.hear_frame.result (HearsLine c.args.setup.now c.args.at own c.hear_frame.new.listener [] c.hear_frame.new.over.items
    c.args.span entered frame))
    (sym is)
    (on_ok_weaker c.hear_frame.result (λ last.
    line_heard c.args.setup.now c.args.at own c.wait.new.self asked c.hear_frame.new.listener [] c.wait.new.over.items later c.hear_frame.new.over.items
    c.args.span entered (Some c.in-Some.frame.now.bytes) time c.in_ok-hear_requests.ensures.heard (c.hear_requests.ensures.link_setup ∙ c.wait.ensures.setup) last)
    c.hear_frame.ensures.heard)

pub returns-in-None-clause-heard : goal.returns-in-None-clause-heard
returns-in-None-clause-heard c =
    let own = c.args.self.now.listener in
    let entered = c.args.self.now.entered.items in
    let asked = c.hear_requests.new.listener in
    let later = c.hear_requests.new.over.items in
    let is : bytes_in (option_copied c.args.frame) ≡ None = ap (λ f. bytes_in (option_copied f)) c.in-None.is in
    let time = subst
    (λ (os : List Over). Hears own c.wait.new.self os c.wait.new.over.items c.args.at (waited c.args.span)) c.empty.ensures c.in_ok-wait.ensures.heard in
    subst
    (λ (frame : Option (List ℕ)). HearsLine c.args.setup.now c.args.at own asked [] later c.args.span entered frame)
    (sym is)
    (line_heard c.args.setup.now c.args.at own c.wait.new.self asked asked [] c.wait.new.over.items later later c.args.span entered None
    time c.in_ok-hear_requests.ensures.heard (c.hear_requests.ensures.link_setup ∙ c.wait.ensures.setup) (nothing_heard asked later c.args.at))
