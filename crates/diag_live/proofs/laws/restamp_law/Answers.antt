use Rattle.diag_live.proofs.Records.{plain_restamped, plain_ticks}
use Rattle.diag_live.proofs.Restamping.{restamped_says, tick_says}
use Rattle.diag_live.proofs.laws.restamp_law.Goals as goal

pub returns : goal.returns
returns c = record { says = restamped_says; ticks = tick_says; plain = plain_restamped; plain_ticks = plain_ticks }
