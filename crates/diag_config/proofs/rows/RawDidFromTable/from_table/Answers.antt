use Rattle.std.proofs.Common.{refl}
use Rattle.diag_config.specs.Setup.{did_at}
use Rattle.diag_config.proofs.rows.RawDidFromTable.from_table.Goals as goal

pub returns : goal.returns
unfolding did_at
returns c = rw (c.in_ok-id.ensures.gives, c.in_ok-value.ensures.gives, c.in_ok-read_level.ensures.gives, c.in_ok-write.ensures.gives, c.in_ok-write_level.ensures.gives, c.in_ok-varies.ensures.gives) refl
