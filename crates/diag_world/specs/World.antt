-- What a world stands for: an interleaving of the testers' events.
use Rattle.std.specs.Prelude.{◌≡◌, ℕ, ◌+◌, List, ◌++◌, length, map, Some, slice_get}
use Rattle.diag_can.specs.Event.{Event}
use Rattle.diag_tp.specs.declared.sent.Sent.{Sent}
use Rattle.diag_setup.specs.declared.raw.RawSetup.{RawSetup}
use Rattle.diag_ecu.specs.State.{opening}
use Rattle.diag_desk.specs.Legal.{Run, Legal, after}
use Rattle.diag_desk.specs.Timed.{Timed, entries_of, timed}
use Rattle.diag_world.specs.Channel.{ChannelState, GoesOn}
use Rattle.diag_world.specs.Server.{ServerState, Serves, sent_to}

-- what a contract sees of a world: the opening and the journal, the server, and the frames of each tester in order
pub record WorldState : Type 0 where
  pub desk : Run
  pub server : ServerState
  pub sent : List (List Sent)

-- The world took the interleaving M: the server serves it, the journal is its run, and each tester was sent what it
-- draws.
pub record Stands (setup : RawSetup) (world : WorldState) (M : List (ℕ × Event)) : Type 0 where
  pub opening : world.desk.opening ≡ opening setup
  pub serves : Serves setup world.server M world.desk.journal
  pub testers : length world.sent ≡ length setup.testers
  pub frames : (i : ℕ) (frames : List Sent) → slice_get world.sent i ≡ Some frames
      → frames ≡ sent_to setup M world.desk.journal (i + 1)

-- a desk and the testers' channels in order, as a world: its server is at the end of the desk's run
abbrev pub world_of : Run → List ChannelState → WorldState
world_of desk channels = record {
  desk = desk;
  server = record {
    ecu = after desk.opening desk.journal;
    ports = map (λ channel. channel.port) channels;
  };
  sent = map (λ channel. channel.sent) channels;
}

-- A tester's event was taken: the desk has the entries that it gives more, still a legal run, and with them and the delays
-- of their replies the tester's channel went on.
pub record Took (old new : Run) (who : ℕ) (e : Event) (channel channel' : ChannelState)
    : Type 0 where
  pub entries : List Timed
  pub delays : entries ≡ timed (after old.opening old.journal) (entries_of entries)
  pub grown : new ≡ record { opening = old.opening; journal = old.journal ++ entries_of entries }
  pub legal : Legal new.opening new.journal
  pub goes_on : GoesOn who channel channel' e entries

-- P holds of the setup and of each interleaving that the world stands for
abbrev pub EachInterleaving : WorldState → (RawSetup → List (ℕ × Event) → Type 0) → Type 0
EachInterleaving world P =
    (setup : RawSetup) (M : List (ℕ × Event)) → Stands setup world M → P setup M
