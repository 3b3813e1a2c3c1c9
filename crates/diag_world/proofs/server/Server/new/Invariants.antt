use Rattle.std.proofs.Common.{◌≡◌, ◌+◌, ℕ, [], Some, ◌≤◌, length, vec_capacity}
use Rattle.std.specs.Prelude.{slice_get}
use Rattle.diag_setup.specs.Setup.{link_of}
use Rattle.diag_world.specs.LazyPort.{AreLazy, caught_up}
use Rattle.diag_port.specs.Late.{pace_of}
use Rattle.diag_port.specs.Port.{port_of}
use Rattle.diag_port.specs.Standing.{PortStands}
use Rattle.diag_world.specs.declared.lazy_port.LazyPort.{LazyPort}
use Rattle.diag_world.proofs.server.Server.new.Given as goal

abbrev pub invariant-loop-index : goal.invariant-loop-index
invariant-loop-index l = record {
  count : length l.ports.items ≡ l.index;
  stand : (i : ℕ) (lazy : LazyPort) → slice_get l.ports.items i ≡ Some lazy → PortStands (link_of l.setup (i + 1)) (pace_of l.setup)
      (port_of (caught_up 0 lazy)) [] [];
  lazy : AreLazy 0 l.ports.items;
  room : length l.setup.testers ≤ vec_capacity l.ports;
}
