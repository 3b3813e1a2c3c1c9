use Rattle.std.proofs.Common.{arith}
use Rattle.diag_store.specs.Routines.{row_later}
use Rattle.diag_store.proofs.RowLemmas.{map_step}
use Rattle.diag_store.proofs.routines.pass_all.Goals as goal

pub loop-row-preserved : goal.loop-row-preserved
loop-row-preserved c = rw (c.later-row.ensures, ← c.row-item.is)
    (map_step (row_later c.args.count) c.args.rows.now c.loop-row.rows c.loop-row.row-index c.row-item.result c.loop-row.invariant (omega arith) c.row-item.is)
