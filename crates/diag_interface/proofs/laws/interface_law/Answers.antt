use Rattle.diag_interface.proofs.Texts.{lines_are}
use Rattle.diag_interface.proofs.Times.{time_says}
use Rattle.diag_interface.proofs.laws.interface_law.Goals as goal

pub returns : goal.returns
returns c = record { lines = lines_are; time = time_says }
