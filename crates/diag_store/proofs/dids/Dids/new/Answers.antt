use Rattle.std.proofs.Common.{refl, arith}
use Rattle.diag_setup.specs.Setup.{did_id}
use Rattle.diag_store.specs.Dids.{id_of}
use Rattle.diag_store.specs.Opening.{did_row}
use Rattle.diag_store.proofs.RowLemmas.{made_rise}
use Rattle.diag_store.proofs.dids.Dids.new.Goals as goal

-- the keys are those of the setup
pub invariant_of-result : goal.invariant_of-result
invariant_of-result c =
    made_rise id_of did_id did_row (λ row. refl) 1024 c.dids-dids.result.now c.loop-did.rows.items c.loop-did.did-index c.loop-did.invariant.rows
    (omega arith) (omega arith) c.dids-dids.ensures.rising
