use Rattle.std.proofs.Common.{◌≡◌, ℕ, List, [], length, ap, sym, ◌∙◌}
use Rattle.std.proofs.lemmas.Bool.{eqb-true}
use Rattle.std.proofs.lemmas.List.{nil_from_length}
use Rattle.std.specs.Str.{bytes_eq}
use Rattle.diag_exchange.specs.Agreeing.{same_but}
use Rattle.diag_exchange.proofs.Agreements.{other_lengths, unmarked}
use Rattle.diag_exchange.proofs.agreeing.same_but.Goals as goal

pub returns-then-is_empty : goal.returns-then-is_empty
returns-then-is_empty c =
    let sent = c.args.sent.now in
    let reply = c.args.reply.now in
    let none : c.args.marks.now ≡ [] =
    nil_from_length c.args.marks.now (eqb-true (length c.args.marks.now) 0 (sym c.is_empty.ensures ∙ c.if-is_empty.true)) in
    let same : c.eq.result ≡ bytes_eq sent reply = c.eq.ensures in
    same ∙ (sym (unmarked sent reply) ∙ ap (λ (ms : List ℕ). same_but ms sent reply) (sym none))

pub returns-then-sent-reply : goal.returns-then-sent-reply
returns-then-sent-reply c = sym (other_lengths c.args.marks.now c.args.sent.now c.args.reply.now c.if-sent-reply.true)
