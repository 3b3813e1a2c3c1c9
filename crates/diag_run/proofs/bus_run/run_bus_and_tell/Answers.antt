use Rattle.std.specs.Prelude.{IfSome}
use Rattle.diag_run.specs.Capture.{Stops}
use Rattle.diag_run.specs.Wanted.{wanted}
use Rattle.diag_run.specs.Devices.{TellsBusReads, TellsConfig, TellsWrites}
use Rattle.diag_run.proofs.Told.{ends_of, not_done}
use Rattle.diag_run.proofs.bus_run.run_bus_and_tell.Goals as goal

pub returns-in-Ok-clause-fault : goal.returns-in-Ok-clause-fault
returns-in-Ok-clause-fault g c = (tt, c.in-Ok.ensures.tells_config, c.in-Ok.ensures.tells_reads, c.in-Ok.ensures.tells_writes)

pub returns-in-Err-clause-done : goal.returns-in-Err-clause-done
returns-in-Err-clause-done g c = not_done _ c.in-Err.fault c.of.result c.of.ensures

pub returns-in-Err-clause-fault : goal.returns-in-Err-clause-fault
returns-in-Err-clause-fault g c =
    let e = c.in-Err.ensures in
    ends_of (λ came. IfSome came (Stops g.R.Source.remaining (wanted g.S.Sink.written g.S.Ending.ends g.S.Sink.aim c.args.sink) c.args.config.now c.run_bus.new.config
    c.args.capture.now c.run_bus.new.capture (g.W.Target.contents c.args.out.now) (g.W.Target.contents c.run_bus.new.out))
    × TellsConfig g.R.Source.failed g.R.Source.sound c.args.config.now c.run_bus.new.config came
    × TellsBusReads g.R.Source.remaining g.R.Source.failed g.R.Source.sound c.args.capture.now c.run_bus.new.capture came
    × TellsWrites g.W.Target.failed g.W.Target.sound c.args.out.now c.run_bus.new.out came) c.in-Err.fault c.of.result (e.fault, e.tells_config, e.tells_reads, e.tells_writes) c.of.ensures

pub returns-in-Err-clause-flushed : goal.returns-in-Err-clause-flushed
returns-in-Err-clause-flushed g c = not_done _ c.in-Err.fault c.of.result c.of.ensures
