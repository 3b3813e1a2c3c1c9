-- What a unit stands for: its calls, what was handed out of its frames, and of its journal.
use Rattle.std.specs.Prelude.{◌≡◌, ◌≤◌, ℕ, Bool, List, [], ◌∷◌, ◌++◌, length, Option, Some, None}
use Rattle.diag_setup.specs.declared.raw.RawSetup.{RawSetup}
use Rattle.diag_world.specs.Server.{ServerView, ServesFrom, server_of}
use Rattle.diag_bus.specs.Node.{IsBy}
use Rattle.diag_bus.specs.Drawn.{Drawn}
use Rattle.uds_unit.specs.History.{Call, History, entries_in, history, journal_of}
use Rattle.uds_unit.specs.Journal.{entered}
use Rattle.uds_unit.specs.Moments.{time_of_clock}
use Rattle.uds_unit.specs.declared.clock.Clock.{Clock}
use Rattle.uds_unit.specs.declared.node.Node.{Node}

-- what a contract sees of a unit: whether a journal is wanted, its text that was not handed out, and the frames that are due
pub record DeviceState : Type 0 where
  pub setup : RawSetup
  pub server : ServerView
  pub wanted : Bool
  pub text : List ℕ
  pub clock : Option Clock
  pub waiting : List Drawn

-- the latest moment in milliseconds that 2^64 - 1 microseconds tell
abbrev pub latest_ms : ℕ
latest_ms = 18446744073709551

-- a clock goes from its start on, to a moment that can be told
abbrev pub IsClock : Option Clock → Type 0
IsClock None = Unit {0}
IsClock (Some clock) = (clock.start ≤ clock.latest) × (clock.latest ≤ latest_ms)

-- what holds of the parts of a unit, whatever it took, also where a call was refused
abbrev pub AreSound : RawSetup → Node → Option Clock → Type 0
AreSound setup node clock = (length node.server.ports ≡ length setup.testers)
    × (length node.drawn.items ≡ length setup.testers)
    × IsBy node.server (time_of_clock clock)
    × IsClock clock

-- The unit took the calls that have made this history. The frames that were handed out and those that are due are the
-- frames that were sent, in order; the text of the journal that was handed out and the text that wasn't are the journal's.
pub record Stands (unit : DeviceState) (h : History) (handed : List Drawn) (told : List ℕ) : Type 0 where
  pub serves : ServesFrom h.opened h.past unit.setup (server_of unit.server) h.events (journal_of unit.setup h)
  pub clock : unit.clock ≡ h.clock
  pub sent : h.sent ≡ handed ++ unit.waiting
  pub text : entered unit.wanted (entries_in unit.setup h) ≡ told ++ unit.text

-- the unit took these calls, and so much was handed out
abbrev pub Ran : DeviceState → List Call → List Drawn → List ℕ → Type 0
Ran unit calls handed told = Stands unit (history unit.setup calls) handed told

-- the setup is the same, and whether a journal is wanted
pub record SameUnit (old new : DeviceState) : Type 0 where
  pub setup : new.setup ≡ old.setup
  pub wanted : new.wanted ≡ old.wanted

-- of each list of calls that the unit took it took this one more
abbrev pub TookCall : DeviceState → DeviceState → Call → Type 0
TookCall old new call = (calls : List Call) (handed : List Drawn) (told : List ℕ)
    → Ran old calls handed told
    → Ran new (calls ++ call ∷ []) handed told

-- a frame was handed out, the first that is due; all else is as before
abbrev pub HandedOut : DeviceState → DeviceState → Drawn → Type 0
HandedOut old new drawn = (old.waiting ≡ drawn ∷ new.waiting)
    × (new ≡ record { setup = old.setup; server = old.server; wanted = old.wanted; text = old.text; clock = old.clock; waiting = new.waiting })
    × ((calls : List Call) (handed : List Drawn) (told : List ℕ)
    → Ran old calls handed told
    → Ran new calls (handed ++ drawn ∷ []) told)

-- the text of the journal was handed out; all else is as before
abbrev pub ToldJournal : DeviceState → DeviceState → List ℕ → Type 0
ToldJournal old new text = (text ≡ old.text)
    × (new ≡ record { setup = old.setup; server = old.server; wanted = old.wanted; text = []; clock = old.clock; waiting = old.waiting })
    × ((calls : List Call) (handed : List Drawn) (told : List ℕ)
    → Ran old calls handed told
    → Ran new calls handed (told ++ text))
