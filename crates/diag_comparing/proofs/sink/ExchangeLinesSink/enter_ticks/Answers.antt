use Rattle.diag_comparing.specs.Ticks.{ticks_taken}
use Rattle.diag_comparing.proofs.sink.ExchangeLinesSink.enter_ticks.Goals as goal

pub returns-clause-entered : goal.returns-clause-entered
returns-clause-entered c = λ setup lines K ecu before took. ticks_taken c.args.self.now setup lines K c.args.arg4 c.args.arg5 took
