use Rattle.std.proofs.Common.{arith}
use Rattle.diag_tp.specs.Wire.{grant, sendings, wire}
use Rattle.diag_world.proofs.channel.Channel.new.Goals as goal

pub returns-clause-stands : goal.returns-clause-stands
unfolding grant sendings wire
returns-clause-stands c = record { stands = c.new.ensures.stands; all_sent = c.new-2.ensures.items; time = omega arith }
