use Rattle.std.proofs.Common.{◌≡◌, ◌*◌, ◌++◌, List, Option, ℕ, length, ap, sym, ◌∙◌, arith}
use Rattle.diag_exchange.specs.Agreeing.{marks}
use Rattle.diag_told.specs.Told.{reply_text}
use Rattle.diag_told.proofs.Marked.{marked_count, unmarked}
use Rattle.diag_told.proofs.telling.add_reply.Goals as goal

pub add_marked-requires : goal.add_marked-requires
add_marked-requires c =
    let ms = marks c.args.expected.now.varies in
    let count : length (reply_text ms c.args.expected.now.reply) ≡ 2 * length c.in-Some.reply =
    ap (λ (r : Option (List ℕ)). length (reply_text ms r)) c.in-Some.is ∙ marked_count ms c.in-Some.reply in
    omega (arith, count, ap length c.bytes-in-Some-varies.ensures.same, c.requires)

pub add_hex-requires : goal.add_hex-requires
add_hex-requires c =
    let ms = marks c.args.expected.now.varies in
    let count : length (reply_text ms c.args.expected.now.reply) ≡ 2 * length c.in-Some.reply =
    ap (λ (r : Option (List ℕ)). length (reply_text ms r)) c.in-Some.is ∙ marked_count ms c.in-Some.reply in
    omega (arith, count, ap length c.bytes-in-None.ensures.same, c.requires)

pub returns-in-None-clause-items : goal.returns-in-None-clause-items
returns-in-None-clause-items c =
    rw (c.in-Some.is, c.in-None.is)
    (rw c.bytes-in-None.ensures.same at c.add_hex.ensures.items ∙ ap (λ (w : List ℕ). c.args.text.now.items ++ w) (sym (unmarked c.in-Some.reply)))

pub returns-in-None-clause-len : goal.returns-in-None-clause-len
returns-in-None-clause-len c =
    let ms = marks c.args.expected.now.varies in
    let count : length (reply_text ms c.args.expected.now.reply) ≡ 2 * length c.in-Some.reply =
    ap (λ (r : Option (List ℕ)). length (reply_text ms r)) c.in-Some.is ∙ marked_count ms c.in-Some.reply in
    omega (arith, count, ap length c.bytes-in-None.ensures.same, c.add_hex.ensures.len)
