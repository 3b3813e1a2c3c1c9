use Rattle.std.proofs.Common.{◌≡◌, Bool, true, false}
use Rattle.diag_live.proofs.Servings.{feed_of_none, feed_of_some}
use Rattle.diag_live.proofs.serving.Serving.end.Goals as goal

never_both : {b : Bool} → b ≡ true → b ≡ false → ⊥
never_both x y = cc

pub returns-then-is_begun-clause-err : goal.returns-then-is_begun-clause-err
returns-then-is_begun-clause-err g c = rw (feed_of_some c.args.self.now.hearing.kept.items (c.is_begun.ensures.0 c.if-is_begun.true)) c.serve.ensures.err

pub returns-then-is_begun-clause-ok : goal.returns-then-is_begun-clause-ok
returns-then-is_begun-clause-ok g c = rw (feed_of_some c.args.self.now.hearing.kept.items (c.is_begun.ensures.0 c.if-is_begun.true)) c.serve.ensures.ok

pub returns-else-is_begun-clause-err : goal.returns-else-is_begun-clause-err
returns-else-is_begun-clause-err g c = rw
    (feed_of_none c.args.self.now.hearing.kept.items (λ some. absurd (never_both (c.is_begun.ensures.1 some) c.if-is_begun.false)))
    c.serve-else-is_begun.ensures.err

pub returns-else-is_begun-clause-ok : goal.returns-else-is_begun-clause-ok
returns-else-is_begun-clause-ok g c = rw
    (feed_of_none c.args.self.now.hearing.kept.items (λ some. absurd (never_both (c.is_begun.ensures.1 some) c.if-is_begun.false)))
    c.serve-else-is_begun.ensures.ok
