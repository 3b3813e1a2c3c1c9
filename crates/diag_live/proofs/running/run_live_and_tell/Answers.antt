use Rattle.std.proofs.Common.{◌≡◌, IfSome}
use Rattle.diag_run.specs.Devices.{TellsConfig}
use Rattle.diag_live.specs.Devices.{TellsBothWrites, TellsHearing}
use Rattle.diag_live.specs.Stops.{StoppedWith}
use Rattle.diag_run.proofs.Told.{ends_of, not_done}
use Rattle.diag_live.proofs.running.run_live_and_tell.Goals as goal

pub returns-in-Ok-clause-fault : goal.returns-in-Ok-clause-fault
returns-in-Ok-clause-fault g c = (tt, c.in-Ok.ensures.config, c.in-Ok.ensures.unheard, c.in-Ok.ensures.writes)

pub returns-in-Err-clause-done : goal.returns-in-Err-clause-done
returns-in-Err-clause-done g c = not_done _ c.in-Err.fault c.of.result c.of.ensures

pub returns-in-Err-clause-status : goal.returns-in-Err-clause-status
returns-in-Err-clause-status g c = not_done (λ status. status ≡ 0) c.in-Err.fault c.of.result c.of.ensures

pub returns-in-Err-clause-fault : goal.returns-in-Err-clause-fault
returns-in-Err-clause-fault g c =
    let e = c.in-Err.ensures in
    ends_of (λ came. IfSome came (StoppedWith g.B.Bench.remaining (g.C.Source.remaining c.args.config.now) (g.C.Source.remaining c.run_live.new.config)
    c.args.bench.now c.run_live.new.bench (g.W.Target.contents c.args.out.now) (g.W.Target.contents c.run_live.new.out)
    (g.R.Target.contents c.args.recorder.now) (g.R.Target.contents c.run_live.new.recorder))
    × TellsConfig g.C.Source.failed g.C.Source.sound c.args.config.now c.run_live.new.config came
    × TellsHearing g.B.Bench.story c.args.bench.now c.run_live.new.bench came
    × TellsBothWrites g.W.Target.failed g.W.Target.sound g.R.Target.failed g.R.Target.sound c.args.out.now c.run_live.new.out c.args.recorder.now
    c.run_live.new.recorder came) c.in-Err.fault c.of.result (e.fault, e.config, e.unheard, e.writes) c.of.ensures

pub returns-in-Err-clause-flushed : goal.returns-in-Err-clause-flushed
returns-in-Err-clause-flushed g c = not_done _ c.in-Err.fault c.of.result c.of.ensures
