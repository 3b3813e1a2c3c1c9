use Rattle.std.proofs.Common.{◌≡◌, ℕ, List, IsOk}
use Rattle.std.proofs.lemmas.Result.{IfErr-weaker, IfOk-weaker}
use Rattle.diag_bus.specs.Bus.{TookLines}
use Rattle.diag_run.specs.Wanted.{EndsAs, EndsWell}
use Rattle.diag_run.proofs.Endings.{end_fault, ends_seen, ends_well}
use Rattle.diag_run.proofs.capture.add_end.Goals as goal

pub returns-clause-ok : goal.returns-clause-ok
returns-clause-ok g c = IfOk-weaker c.add_end.result _ _
    (λ status added. record {
      more = added.more;
      grown = added.grown;
      holds = λ lines h. ends_seen g.S.Sink.took g.S.Ending.ends c.args.bus.now.sink c.sink.result.now c.args.bus.now.setup c.setup.result.now _ _
          c.sink.ensures.is c.setup.ensures added.holds lines h.taken (c.ecu.ensures lines h);
    })
    c.add_end.ensures.ok

pub returns-clause-err : goal.returns-clause-err
returns-clause-err g c = IfErr-weaker c.add_end.result _ _
    (λ fault told. end_fault (EndsAs g.S.Sink.took g.S.Ending.ends c.sink.result.now c.setup.result.now c.ecu.result.now)
    (λ r. (lines : List (List ℕ)) → TookLines g.S.Sink.took c.args.bus.now lines → g.S.Ending.ends c.args.bus.now.sink c.args.bus.now.setup lines ≡ r)
    (EndsWell g.S.Sink.took g.S.Ending.ends c.sink.result.now c.setup.result.now c.ecu.result.now)
    ((lines : List (List ℕ)) → TookLines g.S.Sink.took c.args.bus.now lines → IsOk (g.S.Ending.ends c.args.bus.now.sink c.args.bus.now.setup lines))
    (λ r ends lines h. ends_seen g.S.Sink.took g.S.Ending.ends c.args.bus.now.sink c.sink.result.now c.args.bus.now.setup c.setup.result.now _ r
    c.sink.ensures.is c.setup.ensures ends lines h.taken (c.ecu.ensures lines h))
    (λ well lines h. ends_well g.S.Sink.took g.S.Ending.ends c.args.bus.now.sink c.sink.result.now c.args.bus.now.setup c.setup.result.now _
    c.sink.ensures.is c.setup.ensures well lines h.taken (c.ecu.ensures lines h))
    fault told)
    c.add_end.ensures.err
