use Rattle.diag_judge.proofs.Lines.{none_over}
use Rattle.diag_judge.proofs.tester.empty.Goals as goal

pub returns-then-is_empty : goal.returns-then-is_empty
returns-then-is_empty c = none_over c.args.over.now c.is_empty.ensures c.if-is_empty.true
