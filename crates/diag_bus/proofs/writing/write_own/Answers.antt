use Rattle.std.proofs.Common.{◌++◌, ap, ◌∙◌, arith}
use Rattle.std.proofs.lemmas.Result.{on_ok_weaker}
use Rattle.diag_bus.proofs.Texts.{own_one}
use Rattle.diag_bus.proofs.writing.write_own.Goals as goal

pub returns-then-len-eq1-clause-ok : goal.returns-then-len-eq1-clause-ok
returns-then-len-eq1-clause-ok c =
    on_ok_weaker c.write_one.result (λ wrote. wrote ∙ ap (λ w. c.args.text.now.items ++ w)
    (own_one c.args.setup.now c.args.clock.now.start c.args.index c.args.frames.now.items c.get.result
    (omega (arith, c.len.ensures, c.if-len-eq1.true)) c.get.ensures))
    c.write_one.ensures.ok
