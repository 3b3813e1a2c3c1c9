use Rattle.std.proofs.Common.{◌≡◌, ◌≤◌, arith, length}
use Rattle.diag_store.specs.Routines.{rows_later}
use Rattle.diag_store.proofs.RowLemmas.{refilled}
use Rattle.diag_store.proofs.TableLemmas.{later_rises}
use Rattle.diag_store.proofs.routines.Routines.pass.Goals as goal

-- the keys are as before
pub invariant_of-self : goal.invariant_of-self
invariant_of-self c =
    let rows = c.self.inside.rows in
    let new = c.pass_all.new.rows in
    let same : rows.len ≡ length new = omega arith in
    let few : length new ≤ 256 = omega arith in
    let now : new ≡ rows_later c.args.count rows.items = cc in
    rw (refilled new rows.items rows.len same) (few, rw now (later_rises c.args.count rows.items c.self.invariant.1))
