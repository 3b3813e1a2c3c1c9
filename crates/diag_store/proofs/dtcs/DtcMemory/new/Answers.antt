use Rattle.std.proofs.Common.{refl, arith}
use Rattle.diag_setup.specs.Setup.{dtc_code}
use Rattle.diag_store.specs.Dtcs.{code_of}
use Rattle.diag_store.specs.Opening.{dtc_row}
use Rattle.diag_store.proofs.RowLemmas.{made_rise}
use Rattle.diag_store.proofs.dtcs.DtcMemory.new.Goals as goal

-- the keys are those of the setup
pub invariant_of-result : goal.invariant_of-result
invariant_of-result c =
    made_rise code_of dtc_code dtc_row (λ row. refl) 4096 c.dtcs-dtcs.result.now c.loop-row.rows.items c.loop-row.row-index c.loop-row.invariant.rows
    (omega arith) (omega arith) c.dtcs-dtcs.ensures.rising
