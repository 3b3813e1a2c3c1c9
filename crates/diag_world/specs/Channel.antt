-- One tester's channel: its port, and the frames that it was sent.
use Rattle.std.specs.Prelude.{◌≡◌, ℕ, ◌*◌, ◌≤◌, List, [], ◌∷◌, ◌++◌, length, Option, Some, slice_get}
use Rattle.std.specs.Option.{option_to_list}
use Rattle.diag_can.specs.Event.{Event}
use Rattle.diag_pdu.specs.declared.setup.LinkSetup.{LinkSetup}
use Rattle.diag_tp.specs.declared.sent.Sent.{Sent}
use Rattle.diag_tp.specs.Gives.{gives}
use Rattle.diag_tp.specs.Moments.{last_time}
use Rattle.diag_desk.specs.Entry.{most_entries}
use Rattle.diag_desk.specs.Entries.{asked_by}
use Rattle.diag_desk.specs.Timed.{Timed, entries_of}
use Rattle.diag_port.specs.declared.pace.Pace.{Pace}
use Rattle.diag_port.specs.Releasing.{drawn}
use Rattle.diag_port.specs.Port.{IsAtRest, PortState, port_of}
use Rattle.diag_port.specs.Standing.{HasKept, PortStands}
use Rattle.diag_world.specs.Weaving.{all_by}
use Rattle.diag_world.specs.declared.channel.Channel.{Channel}

-- what is seen of a channel: its port, and the frames that were sent. Room that was made is no part of it
pub record ChannelState : Type 0 where
  pub port : PortState
  pub sent : List Sent

abbrev pub channel_of : Channel → ChannelState
channel_of channel = record { port = port_of channel.port; sent = channel.sent.items }

-- between two events nothing is due
abbrev pub IsResting : Channel → Type 0
IsResting channel = IsAtRest channel.port

abbrev pub AreResting : List Channel → Type 0
AreResting channels =
    (i : ℕ) (channel : Channel) → slice_get channels i ≡ Some channel → IsResting channel

-- The channel took the events E, to which the journal has the entries T, each with the delay of its reply: the port stands
-- for both, and all frames went out.
pub record ChannelStands (s : LinkSetup) (pace : Pace) (channel : ChannelState) (E : List Event)
    (T : List Timed) : Type 0 where
  pub stands : PortStands s pace channel.port E T
  pub all_sent : channel.sent ≡ drawn s pace E T
  -- each tick count has its entry
  pub time : last_time E ≤ 60000 * length T

-- P holds of the settings, of the events and of the entries, whichever, that the channel stands for
abbrev pub EachChannelRun : ChannelState
    → (LinkSetup → Pace → List Event → List Timed → Type 0) → Type 0
EachChannelRun channel P =
    (s : LinkSetup) (pace : Pace) (E : List Event) (T : List Timed)
    → ChannelStands s pace channel E T → P s pace E T

-- The channel took an event more, to which the journal has these entries of its tester: one where the event gives a
-- step, and else none.
abbrev pub GoesOn : ℕ → ChannelState → ChannelState → Event → List Timed → Type 0
GoesOn who old new e entries = EachChannelRun old (λ s pace E T.
    length T ≤ most_entries
    → (asked_by (entries_of entries) ≡ all_by who (option_to_list (gives s E e)))
    × ChannelStands s pace new (E ++ e ∷ []) (T ++ entries))

-- A channel took a tester's event, and who takes the steps has the one that it gives; with its entry the channel went
-- on.
pub record ChannelTook {X : Type 0} (takes : X → ℕ → Timed → X → Type 0) (old new : ChannelState)
    (taker taker' : X) (who : ℕ) (e : Event) : Type 0 where
  pub asked : Option Timed
  pub kept : HasKept takes taker taker' old.port.link.now asked
  pub goes_on : GoesOn who old new e (option_to_list asked)
