use Rattle.std.proofs.Common.{None, Some}
use Rattle.diag_run.specs.Devices.{TellsDevice, TellsFrom}
use Rattle.diag_run.proofs.Devices.{came_or_written, reads_behind, tells_other}
use Rattle.diag_run.proofs.Runs.{made_no_write, writes_run}
use Rattle.diag_run.specs.Run.{job_of}
use Rattle.diag_text.specs.declared.fault.RunFault.TheVariants.{Read, Write}
use Rattle.diag_run.proofs.alone_run.run_alone.Goals as goal

pub returns : goal.returns
returns g c =
    let e = c.whole_alone-made.ensures in
    let left = c.whole_alone-made.new in
    let old = g.W.Target.contents c.args.out.now in
    let new = g.W.Target.contents c.written.new.out in
    let w = c.written.ensures.writes in
    let r = writes_run g.R.Source.remaining (job_of c.args.job) _ left.config _ left.files old _ c.whole_alone-made.result c.written.result e.answer e.device
    e.reads e.stops w in
    record {
      done = r.done;
      fault = r.fault;
      device = r.device;
      nothing = r.nothing;
      front = r.front;
      reads = r.reads;
      stops = r.stops;
      tells_config = came_or_written old new (TellsDevice g.R.Source.failed g.R.Source.sound (Read 0) c.args.config.now left.config) c.whole_alone-made.result c.written.result w
          (tells_other g.R.Source.failed g.R.Source.sound (Read 0) c.args.config.now left.config None (Some Write) (λ is. cc) (λ is. cc)) e.tells_config;
      tells_reads = came_or_written old new (TellsFrom g.R.Source.failed g.R.Source.sound 1 c.args.files.now left.files) c.whole_alone-made.result c.written.result w
          (reads_behind g.R.Source.failed g.R.Source.sound c.args.files.now left.files None (Some Write) (λ m is. cc) (λ m is. cc)) e.tells_reads;
      tells_writes = c.written.ensures.tells (made_no_write g.R.Source.remaining (job_of c.args.job) _ left.config _ left.files c.whole_alone-made.result e.stops);
      flushed = c.written.ensures.flushed;
    }
