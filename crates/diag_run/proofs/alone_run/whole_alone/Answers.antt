use Rattle.std.proofs.Common.{None, inl, ap}
use Rattle.std.specs.Prelude.{Err}
use Rattle.diag_text.specs.declared.fault.RunFault.TheVariants.{Read}
use Rattle.diag_run.specs.Devices.{fault_in}
use Rattle.diag_run.specs.Run.{job_of}
use Rattle.diag_run.proofs.Devices.{reads_untouched, tells_other}
use Rattle.diag_run.proofs.Known.{files_made, files_no_config}
use Rattle.diag_run.proofs.alone_run.whole_alone.Goals as goal

pub returns-in-Ok : goal.returns-in-Ok
returns-in-Ok g c =
    let count = rw c.job.ensures at c.in-Ok.ensures.count in
    let gives = c.text_alone.ensures.gives in
    let made = files_made g.R.Source.remaining (job_of c.args.job) _ _ _ _ c.in-Ok.setup c.in-Ok.ensures.says count c.text_alone.result gives in
    record {
      answer = made.answer;
      device = made.device;
      config = made.config_first;
      reads = made.reads;
      stops = made.stops;
      tells_config = tells_other g.R.Source.failed g.R.Source.sound (Read 0) _ _ None (fault_in c.text_alone.result) (λ is. cc)
          (files_no_config g.R.Source.remaining (job_of c.args.job) c.in-Ok.setup _ _ c.text_alone.result gives) c.in-Ok.ensures.tells;
      tells_reads = c.text_alone.ensures.tells;
    }

pub returns-in-Err-clause-stops : goal.returns-in-Err-clause-stops
returns-in-Err-clause-stops g c = inl (rw c.job.ensures at c.in-Err.ensures.stops)

pub returns-in-Err-clause-tells_reads : goal.returns-in-Err-clause-tells_reads
returns-in-Err-clause-tells_reads g c =
    reads_untouched g.R.Source.failed g.R.Source.sound c.args.files.now c.in-Err.fault (λ n is. c.in-Err.ensures.device n (ap Err is))
