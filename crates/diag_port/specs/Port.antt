-- What a port stands for: a tester's events, and the messages of the replies to it, each at the moment of its request.
use Rattle.std.specs.Prelude.{◌≡◌, ◌≤◌, ℕ, ◌+◌, ◌^◌, List, ◌∷◌, [], ◌++◌, length, min, Option}
use Rattle.std.specs.List.{All}
use Rattle.diag_can.specs.Event.{Event, Physical, Functional, Ticks}
use Rattle.diag_pdu.specs.declared.setup.LinkSetup.{LinkSetup}
use Rattle.diag_tp.specs.declared.sent.Sent.{Sent}
use Rattle.diag_tp.specs.SentFrames.{SentList, HasRoom}
use Rattle.diag_tp.specs.Moments.{history, last_moment, last_time}
use Rattle.diag_tp.specs.Wire.{Placed, wire}
use Rattle.diag_tp.specs.State.{LinkState}
use Rattle.diag_tp.specs.Link.{StandsFor, last_tick, pending, quiet, quiet_later, unsent, view_later}
use Rattle.diag_port.specs.declared.held.Later.{Later}
use Rattle.diag_port.specs.declared.pace.Pace.{Pace}
use Rattle.diag_port.specs.declared.port.Port.{Port}
use Rattle.diag_port.specs.Held.{held_frames, until_due}
use Rattle.diag_port.specs.Late.{Late, NoneIsDue, AreAskedBy, asked_at, held_late, laters, most_pendings, placed_late}

-- what is seen of a port: its link, what is held, and its pace. Room that was made is no part of it
pub record PortState : Type 0 where
  pub link : LinkState
  pub held : List Later
  pub pace : Pace

abbrev pub port_of : Port → PortState
port_of port = record { link = port.link.state; held = port.held.messages; pace = port.pace }

-- The port took the events E, to whose requests the replies are these messages: the link stands for those that are placed,
-- and the others are held.
pub record PortFor (s : LinkSetup) (port : PortState) (E : List Event) (L : List Late)
    (Q : List Sent) : Type 0 where
  pub stands : StandsFor s port.link E (placed_late (history E) 0 L) Q
  pub held : port.held ≡ held_late (history E) 0 L
  pub asked : AreAskedBy (last_moment E) L

-- and all frames of its wire were handed out
pub record HandedOut (s : LinkSetup) (port : PortState) (E : List Event) (L : List Late)
    (Q : List Sent) : Type 0 where
  pub stands : PortFor s port E L Q
  pub all : Q ≡ wire s E (placed_late (history E) 0 L)

-- a list has grown by further items, of which P holds
pub record Grew {X : Type 0} (old new : List X) (P : List X → Type 0) : Type 0 where
  pub more : List X
  pub grown : new ≡ old ++ more
  pub holds : P more

-- the time that a link tells after an event, where it told this time before
abbrev pub time_after : ℕ → Event → ℕ
time_after now (Ticks n) = min (now + n) last_tick
time_after now (Physical bytes) = now
time_after now (Functional bytes) = now

-- so early that a link can tell the time at which any reply goes
abbrev pub IsEarly : ℕ → Type 0
IsEarly t = t ≤ 2 ^ 63

-- frames that were sent from one time to another
abbrev pub AreWithin : ℕ → ℕ → List Sent → Type 0
AreWithin from to sent = All (λ f. (from ≤ f.at) × (f.at ≤ to)) sent

-- between two events no frame is due and no message, and what is held has room in the link
pub record IsAtRest (port : Port) : Type 0 where
  pub drained : pending port.link.state ≡ 0
  pub none_due : NoneIsDue port.link.state.now port.held.messages
  pub rooms : length port.held.messages ≤ port.link.reply_room

-- there is room for so many frames of a link
abbrev pub HasRoomFor : LinkState → ℕ → SentList → Type 0
HasRoomFor link n out = HasRoom link.setup.framing.tx_dl n out

-- room for all frames that a link may still hand out, and for others, is still there for those that are left
abbrev pub KeepsFrameRoom : LinkState → LinkState → SentList → SentList → Type 0
KeepsFrameRoom old new out out' =
    (others : ℕ) → HasRoomFor old (unsent old + others) out → HasRoomFor new (unsent new + others) out'

-- the most frames that it may still hand out where nothing more comes in
abbrev pub unsent_of : Port → ℕ
unsent_of port = unsent port.link.state + held_frames port.held.messages

-- for how many ticks nothing falls due and nothing ends before the last of them
abbrev pub port_quiet : PortState → ℕ
port_quiet port = min (quiet port.link) (until_due port.link.now port.held)

-- a port so many ticks later, in which nothing fell due and nothing ended
abbrev pub port_later : ℕ → PortState → PortState
port_later n port = record { link = quiet_later n port.link; held = port.held; pace = port.pace }

-- the same with the room that was made
abbrev pub whole_later : ℕ → Port → Port
whole_later n port = record { link = view_later n port.link; held = port.held; pace = port.pace }

-- the link stands for these events, answers and frames, and these are all frames of its wire
pub record LinkHandedOut (s : LinkSetup) (link : LinkState) (E : List Event) (A : List Placed)
    (Q : List Sent) : Type 0 where
  pub stands : StandsFor s link E A Q
  pub all : Q ≡ wire s E A

-- these frames were due on the link, and were handed out
abbrev pub SentDue : LinkState → LinkState → List Sent → Type 0
SentDue old new more =
    AreWithin old.now new.now more
    × ((s : LinkSetup) (E : List Event) (A : List Placed) (Q : List Sent)
    → StandsFor s old E A Q
    → last_time E ≤ last_tick
    → LinkHandedOut s new E A (Q ++ more))

-- a port after a frame, and the messages of the reply to the request that it completes, if any
abbrev pub Received : PortState → PortState → Event → ℕ → ℕ → Option (List ℕ) → List Sent → Type 0
Received old new e after sid reply more =
    AreWithin old.link.now new.link.now more
    × ((s : LinkSetup) (E : List Event) (L : List Late) (Q : List Sent)
    → PortFor s old E L Q
    → IsEarly (last_time E)
    → HandedOut s new (E ++ e ∷ [])
    (L ++ asked_at (last_moment (E ++ e ∷ [])) (laters old.pace (last_time E) after sid reply)) (Q ++ more))

-- so many ticks passed on the port, in which these frames were handed out
abbrev pub Passed : PortState → PortState → ℕ → List Sent → Type 0
Passed old new count more =
    AreWithin old.link.now new.link.now more
    × ((s : LinkSetup) (E : List Event) (L : List Late) (Q : List Sent)
    → PortFor s old E L Q
    → last_time E + count ≤ last_tick
    → HandedOut s new (E ++ Ticks count ∷ []) L (Q ++ more))

-- room for the messages of one more reply, in what is held and in the link, and for the frames that they may make due
pub record CanHold (port : Port) (out : SentList) : Type 0 where
  pub held : most_pendings + 1 ≤ port.held.room
  pub link : length port.held.messages + (most_pendings + 1) ≤ port.link.reply_room
  pub frames : HasRoomFor port.link.state
      (unsent port.link.state + length port.held.messages + (most_pendings + 2)) out
