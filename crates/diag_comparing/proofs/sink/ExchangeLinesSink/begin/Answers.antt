use Rattle.diag_comparing.proofs.sink.ExchangeLinesSink.begin.Goals as goal

pub returns-clause-begun : goal.returns-clause-begun
returns-clause-begun c =
    let made = c.in_ok-set_up.ensures in
    ((made.taken.many, made.responses, made.idle), made.taken)
