use Rattle.diag_tp.proofs.Given.{gives_ticks, frame_gives}
use Rattle.diag_tp.proofs.laws.gives_law.Goals as goal

pub returns : goal.returns
returns c = λ s E. record { ticks = gives_ticks s E; frame = frame_gives s E }
