use Rattle.std.proofs.Common.{◌≡◌, []}
use Rattle.std.specs.Io.KnownBytes.{Keeps}
use Rattle.diag_interface.specs.Window.{items, room}
use Rattle.diag_interface.specs.Only.{left}
use Rattle.diag_interface.proofs.only.OnlyInterface.fill.Given as goal

abbrev pub invariant-loop : goal.invariant-loop
invariant-loop g l = Keeps (left g.R.Read.remaining l.fn.self) (left g.R.Read.remaining l.self) × (items l.self.ready ≡ []) × (room l.self.ready ≡ 131072)
