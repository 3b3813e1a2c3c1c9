use Rattle.diag_can.specs.Stamp.{is_digit}
use Rattle.diag_can.proofs.Runs.{run-passes}
use Rattle.diag_can.proofs.stamp.digits_of.Goals as goal

pub returns-then-count-most-clause-digits : goal.returns-then-count-most-clause-digits
returns-then-count-most-clause-digits c = rw (c.split_at.ensures.front, c.digit_run-count.ensures.count) (run-passes is_digit c.args.text.now)
