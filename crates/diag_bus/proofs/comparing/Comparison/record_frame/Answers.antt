use Rattle.std.proofs.lemmas.Result.{on_ok_weaker}
use Rattle.diag_bus.proofs.comparing.Comparison.record_frame.Goals as goal

pub returns-then-is_long : goal.returns-then-is_long
returns-then-is_long c = on_ok_weaker c.record_long.result (λ records. records c.args.frame.now.bytes c.digits.ensures.is) c.record_long.ensures
