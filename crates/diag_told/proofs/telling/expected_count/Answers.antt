use Rattle.std.proofs.Common.{◌≡◌, Bool, Option, List, ℕ, codes, length, ap, ap₂, sym, ◌∙◌}
use Rattle.std.specs.Prelude.{if◌then◌else◌, option_copied}
use Rattle.diag_exchange.specs.Agreeing.{marks}
use Rattle.diag_exchange.specs.Over.{Over, Exchange}
use Rattle.diag_exchange.specs.OverKind.{over_of}
use Rattle.diag_told.specs.Told.{expected_text, message_text, reply_text}
use Rattle.diag_told.proofs.Marked.{reply_count}
use Rattle.diag_told.proofs.telling.expected_count.Goals as goal

pub returns-in-Exchange-clause-count : goal.returns-in-Exchange-clause-count
returns-in-Exchange-clause-count c =
    let same = c.args.same in
    let request = c.in-Exchange.request.now in
    let expected = request.expected in
    let reply : List ℕ = reply_text (marks expected.varies) expected.reply in
    let over : Exchange request c.in-Exchange.pendings (option_copied c.in-Exchange.answer) ≡ c.args.over.now =
    ap over_of (sym c.in-Exchange.is) ∙ c.kind.ensures in
    c.count_of.ensures.count
    ∙ (ap (λ (m : Option (List ℕ)). length (message_text m)) c.as_ref.ensures.value
    ∙ (reply_count (marks expected.varies) expected.reply
    ∙ (ap₂ (λ (i s : Bool). length (if i then codes "~" else if s then codes "=" else reply)) (sym c.if-not-request.true) (sym c.if-not-same.true)
    ∙ ap (λ (o : Over). length (expected_text same o)) over)))
