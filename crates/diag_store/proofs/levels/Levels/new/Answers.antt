use Rattle.std.proofs.Common.{refl, arith}
use Rattle.diag_setup.specs.Setup.{level_sub}
use Rattle.diag_store.specs.Security.{sub_of}
use Rattle.diag_store.specs.Opening.{level_row}
use Rattle.diag_store.proofs.RowLemmas.{made_rise}
use Rattle.diag_store.proofs.levels.Levels.new.Goals as goal

-- the keys are those of the setup
pub invariant_of-result : goal.invariant_of-result
invariant_of-result c =
    made_rise sub_of level_sub level_row (λ row. refl) 4 c.args.levels.now c.loop-level.rows.items c.loop-level.level-index c.loop-level.invariant.rows
    (omega arith) (omega arith) c.requires.rising
