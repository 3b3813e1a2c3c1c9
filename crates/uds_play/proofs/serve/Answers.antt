use Rattle.std.proofs.Common.{◌≡◌, IfSome}
use Rattle.diag_live.specs.Devices.{TellsBothWrites, TellsHearing}
use Rattle.diag_live.specs.Stops.{Stopped}
use Rattle.diag_run.proofs.Told.{ends_of, not_done}
use Rattle.uds_play.proofs.serve.Goals as goal

pub returns-in-Ok-clause-done : goal.returns-in-Ok-clause-done
returns-in-Ok-clause-done g c = c.in-Ok.ensures.done

pub returns-in-Err-clause-done : goal.returns-in-Err-clause-done
returns-in-Err-clause-done g c = not_done _ c.in-Err.fault c.of.result c.of.ensures

pub returns-in-Err-clause-status : goal.returns-in-Err-clause-status
returns-in-Err-clause-status g c = not_done (λ status. status ≡ 0) c.in-Err.fault c.of.result c.of.ensures

pub returns-in-Ok-clause-fault : goal.returns-in-Ok-clause-fault
returns-in-Ok-clause-fault g c = (tt, c.in-Ok.ensures.unheard, c.in-Ok.ensures.writes)

pub returns-in-Err-clause-fault : goal.returns-in-Err-clause-fault
returns-in-Err-clause-fault g c =
    let e = c.in-Err.ensures in
    ends_of (λ came. IfSome came (Stopped c.args.setup (g.B.Bench.remaining c.args.bench.now) (g.B.Bench.remaining c.live.new.bench)
    (g.W.Target.contents c.args.out.now) (g.W.Target.contents c.live.new.out) (g.F.Target.contents c.args.record.now) (g.F.Target.contents c.live.new.recorder))
    × TellsHearing g.B.Bench.story c.args.bench.now c.live.new.bench came
    × TellsBothWrites g.W.Target.failed g.W.Target.sound g.F.Target.failed g.F.Target.sound c.args.out.now c.live.new.out c.args.record.now
    c.live.new.recorder came) c.in-Err.fault c.of.result (e.fault, e.unheard, e.writes) c.of.ensures

pub returns-in-Err-clause-flushed : goal.returns-in-Err-clause-flushed
returns-in-Err-clause-flushed g c = not_done _ c.in-Err.fault c.of.result c.of.ensures
