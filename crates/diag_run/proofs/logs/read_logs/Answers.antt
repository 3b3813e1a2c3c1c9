use Rattle.std.proofs.Common.{◌∙◌, subst, sym, take_at, arith}
use Rattle.std.proofs.lemmas.Result.{err_from_is_err_and}
use Rattle.diag_run.specs.Logs.{AreLogs}
use Rattle.diag_run.proofs.Devices.{reads_passed, reads_refused}
use Rattle.diag_run.proofs.Finishing.{AreLogs-same}
use Rattle.diag_run.proofs.Known.{refused_before}
use Rattle.diag_run.proofs.logs.read_logs.Goals as goal

pub returns-in_err-takers-clause-ends : goal.returns-in_err-takers-clause-ends
returns-in_err-takers-clause-ends g c =
    let p = err_from_is_err_and c.from_residual.result c.from_residual.ensures.1 in
    rw (p.1, p.2) (refused_before g.R.Source.remaining 67108864 c.args.files.now (omega (arith, c.requires, c.in_err-takers.ensures.some)))

pub returns-in_err-takers-clause-tells : goal.returns-in_err-takers-clause-tells
returns-in_err-takers-clause-tells g c =
    let p = err_from_is_err_and c.from_residual.result c.from_residual.ensures.1 in
    reads_refused g.R.Source.failed g.R.Source.sound c.args.files.now c.from_residual.result _ p.1 p.2

pub returns-in_err-read_each-clause-tells : goal.returns-in_err-read_each-clause-tells
returns-in_err-read_each-clause-tells g c =
    let p = err_from_is_err_and c.from_residual-in_err-read_each.result c.from_residual-in_err-read_each.ensures.1 in
    reads_passed g.R.Source.failed g.R.Source.sound _ _ c.read_each.result c.from_residual-in_err-read_each.result _ _ c.in_err-read_each.was p.1 p.2
    c.read_each.ensures.tells

pub returns-clause-logs : goal.returns-clause-logs
returns-clause-logs g c =
    let logs = AreLogs 1 c.args.setup.now c.args.timing in
    subst logs (sym (take_at c.read_each.new.takers _ _ (c.in_ok-read_each.ensures.as_many ∙ c.as_mut_slice.ensures.len)))
    (AreLogs-same c.args.setup.now c.args.timing 1 c.read_each.new.takers c.as_mut_slice.result.now c.in_ok-read_each.ensures.aims
    (subst logs (sym c.as_mut_slice.ensures.value) c.in_ok-takers.ensures.logs))
