use Rattle.diag_bus.proofs.Texts.{lines_more}
use Rattle.diag_comparing.specs.Keeping.{written_at}
use Rattle.diag_comparing.proofs.telling.write_each.Goals as goal

pub loop-judged-preserved : goal.loop-judged-preserved
loop-judged-preserved c =
    lines_more (written_at c.args.setup.now c.args.stamps.now c.args.differences) c.args.batch.now c.loop-judged.judged-index c.judged-item.result
    c.args.text.now.items c.loop-judged.text.items c.write_one.new.text.items c.loop-judged-test.true c.judged-item.is c.loop-judged.invariant
    c.in_ok-write_one.ensures.ok
