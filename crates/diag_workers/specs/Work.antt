-- What a worker does.
use Rattle.std.specs.Prelude.{◌≡◌, ◌<◌, ◌≤◌, ℕ, List, [], ◌∷◌, ◌++◌, length}
use Rattle.diag_can.specs.Event.{Event}
use Rattle.diag_tp.specs.declared.sent.Sent.{Sent}
use Rattle.diag_pdu.specs.declared.setup.LinkSetup.{LinkSetup}
use Rattle.diag_pdu.specs.declared.step.Step.{Step}
use Rattle.diag_tp.specs.Gives.{steps}
use Rattle.diag_desk.specs.declared.entry.Entry.{Entry}
use Rattle.diag_desk.specs.Entry.{Kept, most_entries}
use Rattle.diag_desk.specs.Entries.{asked, asked_by}
use Rattle.diag_desk.specs.Timed.{Timed, entries_of}
use Rattle.diag_port.specs.declared.pace.Pace.{Pace}
use Rattle.diag_port.specs.Releasing.{drawn}
use Rattle.diag_world.specs.Channel.{ChannelState, ChannelStands, GoesOn}
use Rattle.diag_world.specs.Weaving.{all_by}

-- a tester's door that was asked for some of the events' steps, in order, each once, from the first on
abbrev pub AskedSome : LinkSetup → ℕ → List Event → List Timed → List Timed → Type 0
AskedSome s who E before after = (more : List Timed)
    × (rest : List Step)
    × (after ≡ before ++ more)
    × (all_by who (steps s E) ≡ asked_by (entries_of more) ++ all_by who rest)

-- all these entries are of one tester
abbrev pub AreBy : ℕ → List Entry → Type 0
AreBy who entries = asked_by entries ≡ all_by who (asked entries)

-- the journal has these entries
abbrev pub holds : Kept → List Entry → Type 0
holds journal entries = journal.entries ≡ entries

-- what is kept is that of fewer entries than a journal may have
abbrev pub CanKeep : {K : Type 0} → (K → List Entry → Type 0) → K → Type 0
CanKeep keeps kept = (entries : List Entry) × keeps kept entries × (length entries < most_entries)

-- a door has given this entry more, with its delay, and what is kept has the entry, too
abbrev pub HasAsked : {K : Type 0} → (K → List Entry → Type 0) → List Timed → List Timed → K → K → Timed → Type 0
HasAsked keeps before after kept kept' x =
    (after ≡ before ++ x ∷ [])
    × ((entries : List Entry) → keeps kept entries → keeps kept' (entries ++ x.entry ∷ []))

-- Between two events: the tester's channel took the events E, for which its door has given these entries more than
-- before, each with the delay of its answer, and P holds of the entries
pub record WorkerStands (s : LinkSetup) (pace : Pace) (who : ℕ) (channel : ChannelState) (E : List Event)
    (before after : List Timed) (P : List Entry → Type 0) : Type 0 where
  pub entries : List Timed
  pub stands : ChannelStands s pace channel E entries
  pub given : after ≡ before ++ entries
  pub mine : AreBy who (entries_of entries)
  pub short : length entries ≤ length E
  pub kept : P (entries_of entries)

-- A worker took an event: its door has given the entries that the event asks for, P' is kept where P was before, and
-- with these entries the channel went on.
pub record WorkerTook (who : ℕ) (old new : ChannelState) (e : Event) (before after : List Timed)
    (P P' : List Entry → Type 0) : Type 0 where
  pub entries : List Timed
  pub given : after ≡ before ++ entries
  pub goes_on : GoesOn who old new e entries
  pub kept : (K : List Entry) → P K → P' (K ++ entries_of entries)

-- A worker played a log: its door has given entries more than before, which are what the log asks for its tester, the
-- frames are those of their replies, each placed when its delay lets it go, and P holds of the entries.
pub record PlayedLog (s : LinkSetup) (pace : Pace) (who : ℕ) (log : List Event) (before after : List Timed)
    (frames : List Sent) (P : List Entry → Type 0) : Type 0 where
  pub entries : List Timed
  pub given : after ≡ before ++ entries
  pub asked : asked_by (entries_of entries) ≡ all_by who (steps s log)
  pub sent : frames ≡ drawn s pace log entries
  pub kept : P (entries_of entries)
