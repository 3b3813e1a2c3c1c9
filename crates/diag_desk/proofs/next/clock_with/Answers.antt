use Rattle.std.proofs.Common.{arith}
use Rattle.diag_desk.proofs.ClockLemmas.{sum_bound}
use Rattle.diag_desk.proofs.next.clock_with.Goals as goal

pub overflow_add-result : goal.overflow_add-result
overflow_add-result c =
    let past = c.requires.told in
    let bound = sum_bound c.args.line.now.who past.0 past.1.0 in
    let told = past.2.each c.args.line.now.who (omega (arith, c.requires.entry)) in
    omega (arith, bound, told, past.1)
