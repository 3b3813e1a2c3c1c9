use Rattle.diag_setup.specs.Setup.{checked}
use Rattle.diag_config.specs.Setup.{setup_of}
use Rattle.diag_config.proofs.Binds.{Gives-checked}
use Rattle.diag_config.proofs.read_setup.Goals as goal

pub returns-clause-gives : goal.returns-clause-gives
unfolding setup_of
returns-clause-gives c = rw (c.checked.ensures, c.in_ok-read_raw_setup.ensures.gives) (Gives-checked (checked c.in_ok-read_raw_setup.field-0))
