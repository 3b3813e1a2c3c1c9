use Rattle.std.proofs.Common.{◌≡◌, ap}
use Rattle.std.specs.Prelude.{Err, IfSome}
use Rattle.diag_run.specs.Devices.{TellsConfig, TellsReads, TellsWrites}
use Rattle.diag_run.specs.Run.{IsFaultOf, RunStops}
use Rattle.diag_run.proofs.Inputs.{is_fault_of}
use Rattle.diag_run.proofs.Told.{ends_of, not_done}
use Rattle.diag_run.proofs.file_run.run_and_tell.Goals as goal

pub returns-in-Err-clause-status : goal.returns-in-Err-clause-status
returns-in-Err-clause-status g c = not_done (λ status. status ≡ 0) c.in-Err.fault c.of.result c.of.ensures

pub returns-in-Err-clause-done : goal.returns-in-Err-clause-done
returns-in-Err-clause-done g c = not_done _ c.in-Err.fault c.of.result c.of.ensures

pub returns-in-Err-clause-reads : goal.returns-in-Err-clause-reads
returns-in-Err-clause-reads g c = not_done _ c.in-Err.fault c.of.result c.of.ensures

pub returns-in-Err-clause-fault : goal.returns-in-Err-clause-fault
returns-in-Err-clause-fault g c =
    let e = c.in-Err.ensures in
    let old = g.W.Target.contents c.args.out.now in
    let new = g.W.Target.contents c.run.new.out in
    let is = is_fault_of g.R.Source.remaining c.args.job c.args.config.now c.args.files.now old new c.in-Err.fault e.nothing (λ n h. e.device n (ap Err h)) e.fault
    (λ h. e.front (ap Err h)) in
    ends_of (λ came. IfSome came (λ fault. IsFaultOf g.R.Source.remaining c.args.job c.args.config.now c.args.files.now old new fault
    × RunStops g.R.Source.remaining c.args.job c.args.config.now c.run.new.config c.args.files.now c.run.new.files old new fault)
    × TellsConfig g.R.Source.failed g.R.Source.sound c.args.config.now c.run.new.config came
    × TellsReads g.R.Source.failed g.R.Source.sound c.args.files.now c.run.new.files came
    × TellsWrites g.W.Target.failed g.W.Target.sound c.args.out.now c.run.new.out came) c.in-Err.fault c.of.result ((is, e.stops), e.tells_config, e.tells_reads, e.tells_writes) c.of.ensures

pub returns-in-Ok-clause-fault : goal.returns-in-Ok-clause-fault
returns-in-Ok-clause-fault g c = (tt, c.in-Ok.ensures.tells_config, c.in-Ok.ensures.tells_reads, c.in-Ok.ensures.tells_writes)

pub returns-in-Err-clause-flushed : goal.returns-in-Err-clause-flushed
returns-in-Err-clause-flushed g c = not_done _ c.in-Err.fault c.of.result c.of.ensures
