use Rattle.std.proofs.Common.{◌≡◌, ℕ, ◌+◌, Some, [], length, map, ◌≤◌, vec_capacity}
use Rattle.std.specs.Prelude.{slice_get}
use Rattle.diag_setup.specs.Setup.{link_of}
use Rattle.diag_port.specs.Late.{pace_of}
use Rattle.diag_world.specs.Channel.{AreResting, ChannelStands, ChannelState, channel_of}
use Rattle.diag_world.proofs.world.World.new.Given as goal

abbrev pub invariant-loop-index : goal.invariant-loop-index
invariant-loop-index l = record {
  count : length l.channels.items ≡ l.index;
  stand : (i : ℕ) (channel : ChannelState) → slice_get (map channel_of l.channels.items) i ≡ Some channel
      → ChannelStands (link_of l.setup (i + 1)) (pace_of l.setup) channel [] [];
  rest : AreResting l.channels.items;
  room : length l.setup.testers ≤ vec_capacity l.channels;
}
