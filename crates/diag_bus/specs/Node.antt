-- What the server stands for in the midst of a line, beside what the line has drawn so far.
use Rattle.std.specs.Prelude.{◌≡◌, ◌≤◌, ◌⊎◌, ℕ, ◌+◌, OnOk, List, ◌++◌, length, map, Some, Result, slice_get}
use Rattle.std.specs.List.{All}
use Rattle.diag_can.specs.Event.{Event}
use Rattle.diag_tp.specs.declared.sent.Sent.{Sent}
use Rattle.diag_setup.specs.declared.raw.RawSetup.{RawSetup}
use Rattle.diag_desk.specs.declared.entry.Entry.{Entry}
use Rattle.diag_port.specs.Port.{PortState, time_after}
use Rattle.diag_world.specs.Server.{ServerView, Serves, closing_time, quiet_of, sent_to, server_of}
use Rattle.diag_bus.specs.Events.{events_of}
use Rattle.diag_bus.specs.Filled.{AreFilled}
use Rattle.diag_bus.specs.Text.{run_of}
use Rattle.diag_bus.specs.declared.line_frames.LineFrames.{LineFrames}
use Rattle.diag_bus.specs.declared.node.Node.{Node}

-- ---- in a line

-- the frames of each tester in a line
abbrev pub lists_of : LineFrames → List (List Sent)
lists_of drawn = map (λ frames. frames.items) drawn.lists.items

-- The server took M. Each tester was sent its frames of the line behind those that it had been sent before; and the sink took
-- these lines, and then the entries that the journal has more.
pub record Drew {S : Type 0} (took : S → RawSetup → List (List ℕ) → List Entry → Type 0) (setup : RawSetup) (node : Node) (sink : S)
    (base : ℕ → List Sent) (past : List (List ℕ)) (M : List (ℕ × Event)) : Type 0 where
  pub journal : List Entry
  pub serves : Serves setup (server_of node.server) M journal
  pub lists : length node.drawn.lists.items ≡ length setup.testers
  pub frames : (i : ℕ) (frames : List Sent) → slice_get (lists_of node.drawn) i ≡ Some frames
      → sent_to setup M journal (i + 1) ≡ base (i + 1) ++ frames
  pub entries : List Entry
  pub run : journal ≡ run_of setup (events_of setup past) ++ entries
  pub entered : took sink setup past entries

-- the server was given these events: whatever it and the sink stood for, they stand for them behind it
abbrev pub Gave : {S : Type 0} → (S → RawSetup → List (List ℕ) → List Entry → Type 0) → Node → S → Node → S
    → List (ℕ × Event) → Type 0
Gave took old sink new sink' more = (setup : RawSetup) (base : ℕ → List Sent) (past : List (List ℕ)) (M : List (ℕ × Event))
    → Drew took setup old sink base past M
    → Drew took setup new sink' base past (M ++ more)

-- ---- time

-- no tester's clock tells more than this
abbrev pub IsBy : ServerView → ℕ → Type 0
IsBy server time = (i : ℕ) (port : PortState) → slice_get (server_of server).ports i ≡ Some port → port.link.now ≤ time

-- so much may pass before a tester's clock runs out
pub record HasTime (server : ServerView) (span : ℕ) : Type 0 where
  pub time : ℕ
  pub by : IsBy server time
  pub early : time + span ≤ closing_time

-- the clocks went on by at most so much
abbrev pub TookTime : ServerView → ServerView → ℕ → Type 0
TookTime old new span = (time : ℕ) → IsBy old time → IsBy new (time + span)

-- the clock at this index went on by at most so much, and no other did
abbrev pub OneWentOn : ServerView → ServerView → ℕ → ℕ → Type 0
OneWentOn old new index span = (i : ℕ) (port : PortState)
    → slice_get (server_of new).ports i ≡ Some port
    → (before : PortState)
    × (slice_get (server_of old).ports i ≡ Some before)
    × (((i ≡ index) × (port.link.now ≤ before.link.now + span)) ⊎ (port.link.now ≤ before.link.now))

-- the event lets at most so much pass
abbrev pub Lasts : Event → ℕ → Type 0
Lasts e span = (now : ℕ) → time_after now e ≤ now + span

-- no frame of the testers' lists was sent later than this
abbrev pub AreSentBy : List (List Sent) → ℕ → Type 0
AreSentBy lists time = (i : ℕ) (frames : List Sent) → slice_get lists i ≡ Some frames → All (λ f. f.at ≤ time) frames

-- the tester's event sent no frame later than so much behind what its clock told
abbrev pub OneSentIn : Node → Node → ℕ → ℕ → Type 0
OneSentIn old new index span = (last : ℕ)
    → ((port : PortState) → slice_get (server_of old.server).ports index ≡ Some port → port.link.now + span ≤ last)
    → AreSentBy (lists_of old.drawn) last
    → AreSentBy (lists_of new.drawn) last

-- no frame was sent later than so much behind what the clocks told
abbrev pub SentIn : Node → Node → ℕ → Type 0
SentIn old new span = (time last : ℕ)
    → IsBy old.server time
    → time + span ≤ last
    → AreSentBy (lists_of old.drawn) last
    → AreSentBy (lists_of new.drawn) last

-- so many ticks at least no port does anything before the last of them
abbrev pub IsRest : ServerView → ℕ → Type 0
IsRest server rest = rest ≤ quiet_of (server_of server).ports

-- as many testers as before; where the lists have frames is known as before, and so is how long no port does anything
pub record SameShape (old new : Node) : Type 0 where
  pub ports : length new.server.ports ≡ length old.server.ports
  pub lists : length new.drawn.lists.items ≡ length old.drawn.lists.items
  pub filled : AreFilled old.drawn.filled (lists_of old.drawn) → AreFilled new.drawn.filled (lists_of new.drawn)
  pub rest : IsRest old.server old.rest → IsRest new.server new.rest

-- the node has so many testers, so much may pass, and for how long no port does anything is known
pub record IsReady (node : Node) (testers span : ℕ) : Type 0 where
  pub in_setup : length node.server.ports ≡ testers
  pub lists : length node.drawn.lists.items ≡ testers
  pub early : HasTime node.server span
  pub rest : IsRest node.server node.rest

-- the server was given these events, by which at most so much passed, or those of them that there was memory for; the sink
-- was told of them, and `stays` holds of it whatever it took
pub record Passed {S A E : Type 0} (took : S → RawSetup → List (List ℕ) → List Entry → Type 0) (stays : S → S → Type 0)
    (old : Node) (sink : S) (new : Node) (sink' : S) (span : ℕ) (more : List (ℕ × Event))
    (result : Result A E) : Type 0 where
  pub ok : OnOk result (Gave took old sink new sink' more)
  pub kept : stays sink sink'
  pub shape : SameShape old new
  pub pace : TookTime old.server new.server span
  pub sent : OnOk result (SentIn old new span)
