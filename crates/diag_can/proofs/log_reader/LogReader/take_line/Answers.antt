use Rattle.std.proofs.Common.{◌∙◌}
use Rattle.std.proofs.lemmas.Result.{IfErr-weaker, on_ok_weaker}
use Rattle.diag_can.specs.Log.{without_return}
use Rattle.diag_can.proofs.Reading.{line_read, next_fault}
use Rattle.diag_can.proofs.log_reader.LogReader.take_line.Goals as goal

pub returns-clause-took : goal.returns-clause-took
returns-clause-took c =
    let line = c.without_return.ensures in
    on_ok_weaker c.take_line.result (λ took past h. line_read h (without_return c.args.line.now) _ c.in-Some.ensures.room c.in-Some.ensures.number (rw line at took))
    c.take_line.ensures.took

pub returns-clause-fault : goal.returns-clause-fault
returns-clause-fault c =
    let line = c.without_return.ensures in
    IfErr-weaker c.take_line.result _ _
    (λ fault at known past h. next_fault h (without_return c.args.line.now) c.in-Some.ensures.room ∙ (rw (line, c.in-Some.ensures.number) at at) known) c.take_line.ensures.fault
