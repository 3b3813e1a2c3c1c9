use Rattle.std.proofs.Common.{◌≡◌, ◌⊎◌, ◌<◌, ℕ, List, length}
use Rattle.diag_interface.specs.Window.{items}
use Rattle.diag_interface.specs.Only.{outlook}
use Rattle.diag_interface.proofs.only.OnlyInterface.turn_lines.Given as goal

abbrev pub invariant-loop : goal.invariant-loop
invariant-loop g l = ((rest : List ℕ) → outlook l.self rest ≡ outlook l.initial.self rest) × (l.self.inner ≡ l.initial.self.inner)
    × ((l.self ≡ l.initial.self) ⊎ (0 < length (items l.self.ready)))

abbrev pub decreases-loop : goal.decreases-loop
decreases-loop g l = length (items l.self.raw)
