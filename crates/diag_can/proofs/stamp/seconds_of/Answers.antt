use Rattle.std.proofs.Common.{◌≤◌, length, take, arith}
use Rattle.std.specs.List.{AllPass}
use Rattle.std.proofs.lemmas.List.{length-take-le}
use Rattle.diag_can.specs.Stamp.{is_digit}
use Rattle.diag_can.proofs.Digits.{decimal_value-lt}
use Rattle.diag_can.proofs.Runs.{run-passes}
use Rattle.diag_can.proofs.stamp.seconds_of.Goals as goal

pub returns-then-count-le12-clause-few : goal.returns-then-count-le12-clause-few
returns-then-count-le12-clause-few c =
    let run = c.number_run-count.ensures in
    let text = c.args.text.now in
    let count = c.number_run-count.result.0 in
    let few : count ≤ 12 = omega (arith, c.if-count-le12.true) in
    let digits : AllPass is_digit (take count text) = rw run.count (run-passes is_digit text) in
    let short : length (take count text) ≤ 12 = omega (arith, length-take-le count text run.fits) in
    omega (arith, run.value few, decimal_value-lt 12 (take count text) digits short)
