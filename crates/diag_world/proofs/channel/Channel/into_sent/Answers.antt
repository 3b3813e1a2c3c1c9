use Rattle.std.proofs.Common.{rules}
use Rattle.diag_world.proofs.channel.Channel.into_sent.Goals as goal

pub returns : goal.returns
returns c = search rules
