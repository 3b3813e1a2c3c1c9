use Rattle.diag_can.proofs.Digits.{IsRun}
use Rattle.diag_can.proofs.stamp.number_run.Given as goal

abbrev pub invariant-loop-count : goal.invariant-loop-count
invariant-loop-count l = IsRun l.text l.count l.value
