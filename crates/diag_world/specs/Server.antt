-- What a server stands for: an interleaving of the testers' events, and the journal of its run. It keeps neither.
use Rattle.std.specs.Prelude.{◌≡◌, ◌<◌, ◌≤◌, ◌-◌, ◌^◌, ℕ, ◌+◌, ◌*◌, ◌==◌, false, min, List, [], ◌∷◌, ◌++◌, length, map, Option, Some, IfSome, slice_get, slice_set}
use Rattle.std.specs.Option.{option_map, option_to_list}
use Rattle.diag_can.specs.Event.{Event, Ticks}
use Rattle.diag_tp.specs.declared.sent.Sent.{Sent}
use Rattle.diag_pdu.specs.Cut.{counted_from}
use Rattle.diag_sides.specs.Quiet.{always}
use Rattle.diag_setup.specs.declared.raw.RawSetup.{RawSetup}
use Rattle.diag_setup.specs.Setup.{link_of}
use Rattle.diag_ecu.specs.State.{State, opening}
use Rattle.diag_desk.specs.declared.entry.Entry.{Entry}
use Rattle.diag_desk.specs.Entries.{asked_by}
use Rattle.diag_desk.specs.Legal.{Legal, after, after_step, reply_to}
use Rattle.diag_desk.specs.Timed.{Timed, entries_of, own_timed, timed, timed_entry}
use Rattle.diag_port.specs.declared.port.Port.{Port}
use Rattle.diag_port.specs.Late.{pace_of}
use Rattle.diag_port.specs.Releasing.{drawn}
use Rattle.diag_port.specs.Port.{AreWithin, Grew, PortState, port_of, port_quiet, time_after}
use Rattle.diag_port.specs.Standing.{HasKept, PortStands, PortTook, entry_of_ticks}
use Rattle.diag_world.specs.Weaving.{items_of, steps_of}

-- what a contract sees of a server: the ECU, and the testers' ports in order, with the room that was made in them
pub record ServerView : Type 0 where
  pub ecu : State
  pub ports : List Port

-- the same but for the room
pub record ServerState : Type 0 where
  pub ecu : State
  pub ports : List PortState

abbrev pub server_of : ServerView → ServerState
server_of server = record { ecu = server.ecu; ports = map port_of server.ports }

-- the same from its parts
abbrev pub state_at : State → List Port → ServerState
state_at ecu ports = record { ecu = ecu; ports = map port_of ports }

-- for how many ticks no port does anything before the last of them: the least of the ports
abbrev pub quiet_of : List PortState → ℕ
quiet_of [] = always
quiet_of (port ∷ ports) = min (port_quiet port) (quiet_of ports)

-- The server took the interleaving M. Behind the entries T, each with its delay, the ECU was set to `opened`, and K is the
-- journal since then: a legal run from there; T and K together ask what M gives. The ECU is the end of K, and each port
-- stands for its tester's part of M and of both, with the delays of the replies, and all frames handed out.
pub record ServesFrom (opened : State) (T : List Timed) (setup : RawSetup) (server : ServerState)
    (M : List (ℕ × Event)) (K : List Entry) : Type 0 where
  pub legal : Legal opened K
  pub ecu : server.ecu ≡ after opened K
  pub testers : length server.ports ≡ length setup.testers
  pub run : asked_by (entries_of T ++ K) ≡ steps_of (link_of setup) M
  pub ports : (i : ℕ) (port : PortState) → slice_get server.ports i ≡ Some port
      → PortStands (link_of setup (i + 1)) (pace_of setup) port (items_of M (i + 1))
      (own_timed (T ++ timed opened K) (i + 1))

-- The same where nothing set the ECU since the opening of the setup: K is the journal of M, a legal run from the opening
-- that asks what M gives.
abbrev pub Serves : RawSetup → ServerState → List (ℕ × Event) → List Entry → Type 0
Serves setup server M K = ServesFrom (opening setup) [] setup server M K

-- the frames that a tester is sent where these are the entries of M, each with its delay
abbrev pub sent_by : RawSetup → List (ℕ × Event) → List Timed → ℕ → List Sent
sent_by setup M T t = drawn (link_of setup t) (pace_of setup) (items_of M t) (own_timed T t)

-- the frames that a tester is sent where the journal of M is K
abbrev pub sent_to : RawSetup → List (ℕ × Event) → List Entry → ℕ → List Sent
sent_to setup M K t = sent_by setup M (timed (opening setup) K) t

-- a tester's event more, with its entry where it gives one: the tester is sent these frames more, and no other is
pub record ServedFrom (opened : State) (T : List Timed) (setup : RawSetup) (server : ServerState)
    (M : List (ℕ × Event)) (K : List Entry) (who : ℕ) (e : Event) (asked : Option Entry) (more : List Sent)
    : Type 0 where
  pub serves : ServesFrom opened T setup server (M ++ (who, e) ∷ []) (K ++ option_to_list asked)
  pub grown : sent_by setup (M ++ (who, e) ∷ []) (T ++ timed opened (K ++ option_to_list asked)) who
      ≡ sent_by setup M (T ++ timed opened K) who ++ more
  pub others : (t : ℕ) → (who == t) ≡ false
      → sent_by setup (M ++ (who, e) ∷ []) (T ++ timed opened (K ++ option_to_list asked)) t
      ≡ sent_by setup M (T ++ timed opened K) t

-- the same where nothing set the ECU since the opening
abbrev pub Served : RawSetup → ServerState → List (ℕ × Event) → List Entry → ℕ → Event → Option Entry → List Sent
    → Type 0
Served setup server M K who e asked more = ServedFrom (opening setup) [] setup server M K who e asked more

-- the last time, in ticks of its link, at which a tester's event is taken
abbrev pub closing_time : ℕ
closing_time = 2 ^ 63

-- the ECU answered a step, with this delay, whose entry a keeper has, before which its tester's clock told this, and went on
abbrev pub Answered : {X : Type 0} → (X → State → ℕ → Entry → X → Type 0) → State → State → X → X → ℕ → Timed → Type 0
Answered keeps ecu ecu' keeper keeper' before x =
    keeps keeper ecu before x.entry keeper'
    × (x.entry.reply ≡ reply_to ecu x.entry.who x.entry.step)
    × (x ≡ timed_entry ecu x.entry)
    × (ecu' ≡ after_step ecu x.entry.who x.entry.step)

-- a port took a tester's event with this entry, which it gives, and the ECU answered it
pub record PortWent (ecu ecu' : State) (old new : PortState) (who : ℕ) (e : Event)
    (asked : Option Entry) (more : List Sent) : Type 0 where
  pub early : old.link.now ≤ closing_time
  pub answer : IfSome asked (λ k. k.reply ≡ reply_to ecu k.who k.step)
  pub goes_on : ecu' ≡ after ecu (option_to_list asked)
  pub took : PortTook old new who e (option_map (timed_entry ecu) asked) more

-- a port took a tester's event, whose entry a keeper has, and these frames were handed out behind those before: all
-- that are due
pub record TesterTook {X : Type 0} (keeps : X → State → ℕ → Entry → X → Type 0) (ecu ecu' : State)
    (old new : PortState) (keeper keeper' : X) (who : ℕ) (e : Event) (out out' : List Sent)
    : Type 0 where
  pub asked : Option Entry
  pub kept : HasKept (λ k. keeps k ecu) keeper keeper' old.link.now asked
  pub sent : Grew out out' (λ more. PortWent ecu ecu' old new who e asked more)

-- a port, the ECU and the frames that were handed out are as before, and a keeper is as a refused keep leaves it
abbrev pub TookNothing : {X : Type 0} → (X → X → Type 0) → State → State → PortState → PortState → X → X
    → List Sent → List Sent → Type 0
TookNothing unkept ecu ecu' old new keeper keeper' out out' =
    (new ≡ old) × (ecu' ≡ ecu) × (out' ≡ out) × unkept keeper keeper'

-- The port at this place took the event, by which it moved on in time, and sent these frames; the others are as before.
-- A clock goes on by at most 60000 with an entry, and without one not at all: ticks always ask an entry.
pub record MovedOn (old new : List PortState) (place : ℕ) (e : Event) (asked : Option Entry)
    (more : List Sent) : Type 0 where
  pub before : PortState
  pub after : PortState
  pub found : slice_get old place ≡ Some before
  pub set : new ≡ slice_set old place after
  pub time : after.link.now ≡ time_after before.link.now e
  pub pace : after.link.now ≤ before.link.now + 60000 * length (option_to_list asked)
  pub within : AreWithin before.link.now after.link.now more

-- the link at this place, if there is one, hasn't come past its closing time
abbrev pub IsEarly : ServerView → ℕ → Type 0
IsEarly server place = (port : PortState)
    → slice_get (server_of server).ports place ≡ Some port
    → port.link.now ≤ closing_time

-- no link has come past its closing time
abbrev pub AreEarly : List PortState → Type 0
AreEarly ports = (i : ℕ) (port : PortState) → slice_get ports i ≡ Some port → port.link.now ≤ closing_time

-- P holds of the setup, and of each interleaving and journal that the server stands for
abbrev pub EachRun : ServerState → (RawSetup → List (ℕ × Event) → List Entry → Type 0) → Type 0
EachRun server P = (setup : RawSetup) (M : List (ℕ × Event)) (K : List Entry)
    → Serves setup server M K
    → P setup M K

-- P holds of each ECU that the server was set to, of the entries before, of the setup, and of each interleaving and
-- journal that the server stands for
abbrev pub EachStretch : ServerState
    → (State → List Timed → RawSetup → List (ℕ × Event) → List Entry → Type 0) → Type 0
EachStretch server P =
    (opened : State) (T : List Timed) (setup : RawSetup) (M : List (ℕ × Event)) (K : List Entry)
    → ServesFrom opened T setup server M K
    → P opened T setup M K

-- the server took a tester's event with its entry, whose reply is what the ECU answered, and handed out these frames
pub record Settled (old new : ServerState) (who : ℕ) (e : Event) (asked : Option Entry)
    (more : List Sent) : Type 0 where
  pub answer : IfSome asked (λ k. k.reply ≡ reply_to old.ecu k.who k.step)
  pub ecu : new.ecu ≡ after old.ecu (option_to_list asked)
  pub moved : MovedOn old.ports new.ports (who - 1) e asked more
  pub served : EachRun old (λ setup M K. Served setup new M K who e asked more)
  pub stretched : EachStretch old (λ opened T setup M K. ServedFrom opened T setup new M K who e asked more)

-- A server took a tester's event, and these frames were handed out behind those before; a keeper has its entry, before
-- which the tester's clock told what it did.
pub record ServerTook {X : Type 0} (keeps : X → State → ℕ → Entry → X → Type 0) (old new : ServerState)
    (keeper keeper' : X) (who : ℕ) (e : Event) (out out' : List Sent) : Type 0 where
  pub asked : Option Entry
  pub by : IfSome asked (λ k. k.who ≡ who)
  pub sent : Grew out out' (λ more. Settled old new who e asked more)
  pub early : sent.holds.moved.before.link.now ≤ closing_time
  pub kept : HasKept (λ k. keeps k old.ecu) keeper keeper' sent.holds.moved.before.link.now asked

-- an event to each of so many testers, in order
abbrev pub each_of : ℕ → Event → List (ℕ × Event)
each_of n e = map (λ t. (t, e)) (counted_from 1 n)

-- the entries of so many ticks of each of so many testers, in order
abbrev pub entries_of_each : ℕ → ℕ → List Entry
entries_of_each n count = map (λ t. entry_of_ticks t count) (counted_from 1 n)

-- The first n testers took so many ticks each, in order, in which their ports did nothing: their clocks went on, these are
-- in the journal, and no tester is sent a frame more. The other ports are as before.
pub record Waited (old new : ServerState) (n count : ℕ) : Type 0 where
  pub many : length new.ports ≡ length old.ports
  pub time : (i : ℕ) (port : PortState) → slice_get new.ports i ≡ Some port
      → (before : PortState) × (slice_get old.ports i ≡ Some before)
      × (port.link.now ≤ before.link.now + count)
  pub rest : (i : ℕ) → n ≤ i → slice_get new.ports i ≡ slice_get old.ports i
  pub served : EachRun old (λ setup M K.
      Serves setup new (M ++ each_of n (Ticks count)) (K ++ entries_of_each n count)
      × ((t : ℕ) → sent_to setup (M ++ each_of n (Ticks count)) (K ++ entries_of_each n count) t
      ≡ sent_to setup M K t))
  pub stretched : EachStretch old (λ opened T setup M K.
      ServesFrom opened T setup new (M ++ each_of n (Ticks count)) (K ++ entries_of_each n count)
      × ((t : ℕ) → sent_by setup (M ++ each_of n (Ticks count)) (T ++ timed opened (K ++ entries_of_each n count)) t
      ≡ sent_by setup M (T ++ timed opened K) t))

-- The ECU of the server was set to this: a new stretch begins, before which there were the entries so far. The ports are as
-- before.
pub record WasSet (old new : ServerState) (set : State) : Type 0 where
  pub ecu : new.ecu ≡ set
  pub ports : new.ports ≡ old.ports
  pub stretched : EachStretch old (λ opened T setup M K. ServesFrom set (T ++ timed opened K) setup new M [])
