-- What a port stands for of a tester's run: its events, and what was answered to the steps that they give.
use Rattle.std.specs.Prelude.{◌≡◌, ◌≤◌, ◌+◌, ℕ, List, [], ◌∷◌, ◌++◌, IsSome, IfSome, IsTrue, Option, Some, None}
use Rattle.std.specs.Option.{option_map, option_to_list}
use Rattle.diag_can.specs.Event.{Event}
use Rattle.diag_pdu.specs.declared.setup.LinkSetup.{LinkSetup}
use Rattle.diag_pdu.specs.declared.step.Request.{Request}
use Rattle.diag_pdu.specs.declared.step.Step.{Step}
use Rattle.diag_pdu.specs.declared.step.Step.TheVariants as step
use Rattle.diag_tp.specs.declared.sent.Sent.{Sent}
use Rattle.diag_tp.specs.declared.taken.Taken.{Taken}
use Rattle.diag_tp.specs.SentFrames.{SentList}
use Rattle.diag_tp.specs.Gives.{gives, steps}
use Rattle.diag_tp.specs.Moments.{is_tick, last_time}
use Rattle.diag_tp.specs.State.{LinkState}
use Rattle.diag_tp.specs.Taken.{IsTaken, FitsIn, asked_in}
use Rattle.diag_tp.specs.Link.{EachHistory, asked_of, has_reply_room, unsent}
use Rattle.diag_desk.specs.declared.entry.Entry.{Entry}
use Rattle.diag_desk.specs.Entries.{asked, asks, entry}
use Rattle.diag_desk.specs.Timed.{Timed, entries_of}
use Rattle.diag_port.specs.declared.pace.Pace.{Pace}
use Rattle.diag_port.specs.declared.port.Port.{Port}
use Rattle.diag_port.specs.Releasing.{drawn, lates}
use Rattle.diag_port.specs.Port.{AreWithin, CanHold, Grew, HasRoomFor, IsAtRest, IsEarly, PortFor, PortState, time_after}

-- the entry of so many ticks, which have no reply
abbrev pub entry_of_ticks : ℕ → ℕ → Entry
entry_of_ticks who count = entry who (step.Ticks count) None

-- the same with its delay
abbrev pub timed_ticks : ℕ → ℕ → Timed
timed_ticks who count = record { entry = entry_of_ticks who count; after = 0 }

-- the entry of a request, with the delay of its reply
abbrev pub timed_asks : ℕ → Request → Option (List ℕ) → ℕ → Timed
timed_asks who request reply after = record { entry = asks who request reply; after = after }

-- the entry of a step with the delay of its reply, where there is a step
abbrev pub timed_of : ℕ → Option Step → Option (List ℕ) → ℕ → Option Timed
timed_of who None reply after = None
timed_of who (Some step) reply after =
    Some (record { entry = entry who step reply; after = after })

-- The port took the events E, to which the journal has the entries T, each with the delay of its reply: it stands for both,
-- all that they draw was handed out, and T asks what E gives.
pub record PortStands (s : LinkSetup) (pace : Pace) (port : PortState) (E : List Event)
    (T : List Timed) : Type 0 where
  pub paced : port.pace ≡ pace
  pub stands : PortFor s port E (lates s pace E T) (drawn s pace E T)
  pub asks : asked (entries_of T) ≡ steps s E

-- whatever a link stands for, the event gives a step
abbrev pub GivesStep : LinkState → Event → Type 0
GivesStep link e = EachHistory link (λ s E A Q. IsSome (gives s E e))

-- A frame was read at a port at rest, of which this is left, and there is room for it, for a reply, and for the frames that
-- may fall due. The step that it gives is lent.
pub record IsPrepared (port : Port) (e : Event) (taken : Taken) (out : SentList) : Type 0 where
  pub rest : IsAtRest port
  pub is : IsTaken port.link.state e taken
  pub fits : FitsIn port.link taken
  pub reply_room : IsTrue (has_reply_room port.link)
  pub room : HasRoomFor port.link.state (unsent port.link.state + 2) out
  pub holds : ¬ (port.held.messages ≡ []) → CanHold port out
  pub step : EachHistory port.link.state (λ s E A Q. asked_of (asked_in port.link taken) ≡ gives s E e)

-- it stands for one event more, with its entry where it gives a step, and these frames were handed out
abbrev pub Went : LinkSetup → Pace → PortState → List Event → List Timed → Event → List Timed → List Sent → Type 0
Went s pace new E T e entries more =
    PortStands s pace new (E ++ e ∷ []) (T ++ entries)
    × (drawn s pace (E ++ e ∷ []) (T ++ entries) ≡ drawn s pace E T ++ more)

-- A port took a tester's event, which gives this entry: it moved on in time, and these frames were handed out, all that
-- are due.
pub record PortTook (old new : PortState) (who : ℕ) (e : Event) (asked : Option Timed)
    (more : List Sent) : Type 0 where
  pub ticks : IsTrue (is_tick e) → IsSome asked
  pub step : EachHistory old.link (λ s E A Q. option_map (λ x. x.entry.step) asked ≡ gives s E e)
  pub by : IfSome asked (λ x. x.entry.who ≡ who)
  pub time : new.link.now ≡ time_after old.link.now e
  pub most : new.link.now ≤ old.link.now + 60000
  pub short : (E : List Event) → last_time (E ++ e ∷ []) ≤ last_time E + 60000
  pub within : AreWithin old.link.now new.link.now more
  pub stands : (s : LinkSetup) (pace : Pace) (E : List Event) (T : List Timed)
      → PortStands s pace old E T
      → IsEarly (last_time E)
      → Went s pace new E T e (option_to_list asked) more

-- who takes steps has that of an event more, where the event gives one, before which its tester's clock told this
abbrev pub HasKept : {X Y : Type 0} → (X → ℕ → Y → X → Type 0) → X → X → ℕ → Option Y → Type 0
HasKept keeps old new before None = new ≡ old
HasKept keeps old new before (Some y) = keeps old before y new

-- A port took a tester's event, and who takes the steps has the one that it gives; the frames that are due were handed out
-- behind those before.
pub record TookEvent {X : Type 0} (takes : X → ℕ → Timed → X → Type 0) (old new : PortState)
    (taker taker' : X) (who : ℕ) (e : Event) (out out' : List Sent) : Type 0 where
  pub asked : Option Timed
  pub kept : HasKept takes taker taker' old.link.now asked
  pub sent : Grew out out' (λ more. PortTook old new who e asked more)

-- a port and the frames that were handed out are as before, and who takes the steps is as one that is refused leaves it
abbrev pub RefusedEvent : {X : Type 0} → (X → X → Type 0) → PortState → PortState → X → X
    → List Sent → List Sent → Type 0
RefusedEvent refuses old new taker taker' out out' =
    (new ≡ old) × (out' ≡ out) × refuses taker taker'
