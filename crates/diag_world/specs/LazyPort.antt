-- A port that takes ticks late in which it does nothing.
use Rattle.std.specs.Prelude.{◌≡◌, ◌≤◌, ◌<◌, ◌-◌, ℕ, List, Some, slice_get}
use Rattle.diag_tp.specs.Link.{last_tick}
use Rattle.diag_port.specs.declared.port.Port.{Port}
use Rattle.diag_port.specs.Port.{IsAtRest, port_of, port_quiet, whole_later}
use Rattle.diag_world.specs.declared.lazy_port.LazyPort.{LazyPort}

-- the port once it has taken all of so many ticks that have passed
abbrev pub caught_up : ℕ → LazyPort → Port
caught_up passed lazy = whole_later (passed - lazy.taken) lazy.port

-- Of so many ticks that have passed it has taken some, as its clock tells, and in the others it does nothing. Nothing is due.
pub record IsLazy (passed : ℕ) (lazy : LazyPort) : Type 0 where
  pub rest : IsAtRest lazy.port
  pub marked : lazy.taken ≤ passed
  pub told : lazy.taken ≤ lazy.port.link.state.now
  pub fits : lazy.port.link.state.now ≤ last_tick
  pub idle : passed - lazy.taken < port_quiet (port_of lazy.port)

abbrev pub AreLazy : ℕ → List LazyPort → Type 0
AreLazy passed ports =
    (i : ℕ) (lazy : LazyPort) → slice_get ports i ≡ Some lazy → IsLazy passed lazy
