use Rattle.std.proofs.lemmas.Result.{on_ok_weaker}
use Rattle.diag_world.specs.Channel.{channel_of}
use Rattle.diag_world.proofs.Channels.{channel_goes_on}
use Rattle.diag_world.proofs.channel.Channel.take.Goals as goal

pub returns-clause-took : goal.returns-clause-took
returns-clause-took g c = on_ok_weaker c.take.result (λ took. record {
  asked = took.asked;
  kept = took.kept;
  goes_on = channel_goes_on (channel_of c.args.self.now) (channel_of (record { port = c.take.new.port; sent = c.take.new.out })) c.args.who
      c.args.event.now took.asked took.sent.more took.sent.holds took.sent.grown;
}) c.take.ensures.took
