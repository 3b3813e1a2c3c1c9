use Rattle.std.proofs.Common.{◌≡◌, map}
use Rattle.diag_world.specs.Channel.{channel_of}
use Rattle.diag_world.proofs.world.sent_of.Given as goal

abbrev pub invariant-loop-channel : goal.invariant-loop-channel
invariant-loop-channel l = record {
  can : (goal.iterator-loop-channel).can_next l.channel-iterator;
  ends : (goal.iterator-loop-channel).is_finite l.channel-iterator;
  sent : map (λ s. s.items) l.sent.items ≡ map (λ c. c.sent) (map channel_of l.yielded);
}
