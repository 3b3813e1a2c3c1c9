use Rattle.std.proofs.Common.{refl, arith}
use Rattle.diag_setup.specs.Setup.{routine_id}
use Rattle.diag_store.specs.Routines.{id_of}
use Rattle.diag_store.specs.Opening.{routine_row}
use Rattle.diag_store.proofs.RowLemmas.{made_rise}
use Rattle.diag_store.proofs.routines.Routines.new.Goals as goal

-- the keys are those of the setup
pub invariant_of-result : goal.invariant_of-result
invariant_of-result c =
    made_rise id_of routine_id routine_row (λ row. refl) 256 c.routines-routines.result.now c.loop-routine.rows.items c.loop-routine.routine-index c.loop-routine.invariant.rows
    (omega arith) (omega arith) c.routines-routines.ensures.rising
