use Rattle.std.proofs.Common.{◌≡◌, ◌≤◌, arith, length}
use Rattle.diag_store.specs.Rows.{change_first}
use Rattle.diag_store.specs.Security.{has_sub, moved_on}
use Rattle.diag_store.proofs.RowLemmas.{refilled}
use Rattle.diag_store.proofs.TableLemmas.{moved_on_rises}
use Rattle.diag_store.proofs.levels.Levels.move_on.Goals as goal

-- the keys are as before
pub invariant_of-self : goal.invariant_of-self
invariant_of-self c =
    let rows = c.self.inside.rows in
    let new = c.move_on.new.levels in
    let same : rows.len ≡ length new = omega arith in
    let few : length new ≤ 4 = omega arith in
    let now : new ≡ change_first (has_sub c.args.sub) moved_on rows.items = cc in
    rw (refilled new rows.items rows.len same) (few, rw now (moved_on_rises rows.items c.args.sub c.self.invariant.1))
