use Rattle.diag_can.specs.Log.{is_feed}
use Rattle.diag_can.proofs.LaneLemmas.{first_byte}
use Rattle.diag_can.proofs.front.line_end.Goals as goal

pub returns-then-run-lt64 : goal.returns-then-run-lt64
returns-then-run-lt64 c = first_byte is_feed c.args.text.now 64 c.line_run-run.result c.if-text-ge64.true c.if-run-lt64.true c.line_run-run.ensures
