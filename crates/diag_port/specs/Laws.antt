-- Where no reply goes later than at once, all is as it was without delays.
use Rattle.std.specs.Prelude.{◌≡◌, List, [], ◌∷◌}
use Rattle.diag_can.specs.Event.{Event}
use Rattle.diag_pdu.specs.declared.setup.LinkSetup.{LinkSetup}
use Rattle.diag_tp.specs.Placing as plain
use Rattle.diag_desk.specs.Entries.{replies}
use Rattle.diag_desk.specs.Timed.{Timed, entries_of}
use Rattle.diag_port.specs.declared.pace.Pace.{Pace}
use Rattle.diag_port.specs.Releasing.{drawn, held, placed}

-- no reply goes later
abbrev pub AreAtOnce : List Timed → Type 0
AreAtOnce [] = Unit {0}
AreAtOnce (x ∷ T) = (x.after ≡ 0) × AreAtOnce T

-- the messages are placed as a link alone places them, each reply at the moment that gave its step, and nothing is held
abbrev pub AtOnceLaw : Type 0
AtOnceLaw = (s : LinkSetup) (pace : Pace) (E : List Event) (T : List Timed) → AreAtOnce T
    → (placed s pace E T ≡ plain.placed s E (replies (entries_of T)))
    × (drawn s pace E T ≡ plain.drawn s E (replies (entries_of T)))
    × (held s pace E T ≡ [])
