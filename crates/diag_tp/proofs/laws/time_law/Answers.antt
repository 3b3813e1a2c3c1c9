use Rattle.diag_tp.proofs.Moments.{moments-append, moments-sum, last_time-frame, last_time-ticks}
use Rattle.diag_tp.proofs.laws.time_law.Goals as goal

pub returns : goal.returns
returns c = record { append = moments-append; sum = moments-sum; frame = last_time-frame; ticks = last_time-ticks }
