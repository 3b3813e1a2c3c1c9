use Rattle.std.proofs.Common.{◌∙◌, ap, arith, slice_index_or, take_at}
use Rattle.std.proofs.lemmas.Result.{err_from_is_err_and}
use Rattle.diag_run.proofs.Devices.{reads_passed, reads_refused}
use Rattle.diag_run.proofs.Known.{FilesRead-map, journal_read, refused_before}
use Rattle.diag_run.proofs.answer.read_journal.Goals as goal

pub returns-in_err-replay-clause-ends : goal.returns-in_err-replay-clause-ends
returns-in_err-replay-clause-ends g c =
    let p = err_from_is_err_and c.from_residual.result c.from_residual.ensures.1 in
    rw (p.1, p.2) (refused_before g.R.Source.remaining 268435456 c.args.files.now (omega (arith, c.requires)))

pub returns-in_err-push-clause-ends : goal.returns-in_err-push-clause-ends
returns-in_err-push-clause-ends g c =
    let p = err_from_is_err_and c.from_residual-in_err-push.result c.from_residual-in_err-push.ensures.1 in
    rw (p.1, p.2) (refused_before g.R.Source.remaining 268435456 c.args.files.now (omega (arith, c.requires)))

pub returns-clause-read : goal.returns-clause-read
returns-clause-read g c =
    FilesRead-map g.R.Source.remaining 268435456 _ _ _ _
    (journal_read c.read_each.new.takers c.as_mut_slice.result.now c.new-takers.result.items _ c.remove.result c.in_ok-read_each.ensures.aims
    (c.as_mut_slice.ensures.value ∙ c.in_ok-push.ensures.items) c.new-takers.ensures.items
    (c.remove.ensures.value
    ∙ ap (λ l. slice_index_or l 0 c.remove.result) (take_at c.read_each.new.takers _ _ (c.in_ok-read_each.ensures.as_many ∙ c.as_mut_slice.ensures.len))))
    c.in_ok-read_each.ensures.read

pub returns-in_err-replay-clause-tells : goal.returns-in_err-replay-clause-tells
returns-in_err-replay-clause-tells g c =
    let p = err_from_is_err_and c.from_residual.result c.from_residual.ensures.1 in
    reads_refused g.R.Source.failed g.R.Source.sound c.args.files.now c.from_residual.result _ p.1 p.2

pub returns-in_err-push-clause-tells : goal.returns-in_err-push-clause-tells
returns-in_err-push-clause-tells g c =
    let p = err_from_is_err_and c.from_residual-in_err-push.result c.from_residual-in_err-push.ensures.1 in
    reads_refused g.R.Source.failed g.R.Source.sound c.args.files.now c.from_residual-in_err-push.result _ p.1 p.2

pub returns-in_err-read_each-clause-tells : goal.returns-in_err-read_each-clause-tells
returns-in_err-read_each-clause-tells g c =
    let p = err_from_is_err_and c.from_residual-in_err-read_each.result c.from_residual-in_err-read_each.ensures.1 in
    reads_passed g.R.Source.failed g.R.Source.sound _ _ c.read_each.result c.from_residual-in_err-read_each.result _ _ c.in_err-read_each.was p.1 p.2 c.read_each.ensures.tells
