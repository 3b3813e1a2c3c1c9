-- What a serial play has written of the events that it took.
use Rattle.std.specs.Prelude.{◌≡◌, ◌≢◌, ◌≤◌, ◌⊎◌, ℕ, ◌+◌, ◌*◌, Bool, if◌then◌else◌, List, [], ◌++◌, length, map, Option, Some, IfSome, IsSome, slice_get}
use Rattle.std.specs.Global.{Vec}
use Rattle.std.specs.List.{concat}
use Rattle.std.specs.Option.{option_to_list}
use Rattle.diag_can.specs.WriterView.{WriterView}
use Rattle.diag_can.specs.Event.{Event}
use Rattle.diag_can.specs.declared.log.Timing.{Timing}
use Rattle.diag_can.specs.declared.log.Timing.TheVariants.{Lines, Stamps}
use Rattle.diag_setup.specs.declared.raw.RawSetup.{RawSetup}
use Rattle.diag_setup.specs.Setup.{link_of}
use Rattle.diag_tp.specs.declared.sent.Sent.{Sent}
use Rattle.diag_tp.specs.Gives.{gives}
use Rattle.diag_desk.specs.declared.entry.Entry.{Entry}
use Rattle.diag_desk.specs.declared.version.JournalVersion.{JournalVersion}
use Rattle.diag_desk.specs.declared.version.JournalVersion.TheVariants.{Plain, Stamped}
use Rattle.diag_desk.specs.Entry.{most_entries}
use Rattle.diag_desk.specs.Text.{text_of, ticks_of}
use Rattle.diag_world.specs.Server.{EachRun, Served, Serves, sent_to, server_of}
use Rattle.diag_world.specs.Weaving.{items_of}
use Rattle.diag_bus.specs.Node.{IsBy}
use Rattle.diag_bus.specs.Writing.{writer_of}
use Rattle.diag_text.specs.Text.{end_text, lines_of}
use Rattle.diag_run.specs.declared.journal_lines.JournalLines.{JournalLines}
use Rattle.diag_run.specs.declared.replies.ReplyLines.{ReplyLines}
use Rattle.diag_run.specs.declared.playing.Playing.{Playing}

-- what a play is asked to write, and of which setup
pub record Terms : Type 0 where
  pub setup : RawSetup
  pub only_journal : Bool
  pub timing : Timing

-- the version of the journal's text
abbrev pub version_of : Timing → JournalVersion
version_of Lines = Plain
version_of Stamps = Stamped

-- ---- the journal's text

-- the text of these entries, of which there are so many
pub record Enters (lines : JournalLines) (version : JournalVersion) (K : List Entry) : Type 0 where
  pub same : lines.version ≡ version
  pub text : lines.text.items ≡ text_of version K
  pub number : lines.count ≡ length K

-- the text has the entry of an event more, if it gives one, whose tester's clock told this before it
abbrev pub EntersMore : JournalLines → JournalLines → ℕ → Option Entry → Type 0
EntersMore old new before asked = (version : JournalVersion) (K : List Entry)
    → Enters old version K
    → IfSome asked (λ k. before ≡ ticks_of k.who K)
    → Enters new version (K ++ option_to_list asked)

-- the text has this entry more, and no more than a journal may have
abbrev pub EntersOne : JournalLines → ℕ → Entry → JournalLines → Type 0
EntersOne old before k new = EntersMore old new before (Some k)
    × (new.count ≡ old.count + 1)
    × (new.count ≤ most_entries)

-- what an entry that isn't taken leaves: the same but for room
abbrev pub IsUnkept : JournalLines → JournalLines → Type 0
IsUnkept old new = (new.text.items ≡ old.text.items)
    × (new.version ≡ old.version)
    × (new.count ≡ old.count)

-- ---- the reply lines

-- the lines of the tester of this name, who was sent these frames
pub record Replies (name : WriterView) (lines : ReplyLines) (sent : List Sent) : Type 0 where
  pub named : lines.writer ≡ name
  pub text : lines.text.items ≡ lines_of name sent

-- no tester was sent a frame
abbrev pub AreUnwritten : RawSetup → List ReplyLines → Type 0
AreUnwritten setup lines = (i : ℕ) (tester : ReplyLines) → slice_get lines i ≡ Some tester
    → Replies (writer_of setup (i + 1)) tester []

-- the lines of each tester in order
abbrev pub AreTexts : List ReplyLines → List (Vec ℕ) → Type 0
AreTexts lines texts = map (λ text. text.items) texts ≡ map (λ tester. tester.text.items) lines

-- the lines of the tester at this place, where there are some, have grown by those of these frames, and no others have
pub record WroteTo (old new : List ReplyLines) (place : ℕ) (frames : List Sent) : Type 0 where
  pub many : length new ≡ length old
  pub each : (i : ℕ) (tester : ReplyLines) → slice_get new i ≡ Some tester
      → (before : ReplyLines)
      × (slice_get old i ≡ Some before)
      × (tester.writer ≡ before.writer)
      × (((i ≡ place)
      × (tester.text.items ≡ before.text.items ++ lines_of before.writer frames))
      ⊎ ((i ≢ place) × (tester.text.items ≡ before.text.items)))

-- ---- the play

-- Whatever was played: there are no more entries than a journal has, and no clock tells more than they give.
pub record IsPaced (playing : Playing) : Type 0 where
  pub few : playing.journal.count ≤ most_entries
  pub clocks : IsBy playing.server (60000 * playing.journal.count)

-- between two events the line of each frame is written
pub record IsReady (playing : Playing) : Type 0 where
  pub paced : IsPaced playing
  pub out : playing.out.items ≡ []

-- The events M were played: the server serves them, and the journal of their run and the lines of the frames that each
-- tester is sent are written.
pub record Plays (terms : Terms) (playing : Playing) (M : List (ℕ × Event)) : Type 0 where
  pub entries : List Entry
  pub serves : Serves terms.setup (server_of playing.server) M entries
  pub journal : Enters playing.journal (version_of terms.timing) entries
  pub many : length playing.lines.items
      ≡ (if terms.only_journal then 0 else length terms.setup.testers)
  pub each : (i : ℕ) (tester : ReplyLines) → slice_get playing.lines.items i ≡ Some tester
      → Replies (writer_of terms.setup (i + 1)) tester (sent_to terms.setup M entries (i + 1))

-- a tester's event more: the server took it, its entry is written, and what it draws waits
pub record Entered (playing : Playing) (setup : RawSetup) (version : JournalVersion) (M : List (ℕ × Event))
    (K : List Entry) (who : ℕ) (e : Event) : Type 0 where
  pub asked : Option Entry
  pub served : Served setup (server_of playing.server) M K who e asked playing.out.items
  pub enters : Enters playing.journal version (K ++ option_to_list asked)

-- the same of all that the server and the journal's text stand for
abbrev pub Took : Playing → Playing → ℕ → Event → Type 0
Took old new who e = (setup : RawSetup) (version : JournalVersion) (M : List (ℕ × Event)) (K : List Entry)
    → Serves setup (server_of old.server) M K
    → Enters old.journal version K
    → Entered new setup version M K who e

-- the event gives a step, for which there is no room
abbrev pub IsFull : Playing → ℕ → Event → Type 0
IsFull playing who e = (playing.journal.count ≡ most_entries)
    × EachRun (server_of playing.server) (λ setup M K.
    IsSome (gives (link_of setup who) (items_of M who) e))

-- all that is written
abbrev pub parts_text : RawSetup → Bool → Playing → List ℕ
parts_text setup only_journal playing =
    concat (map (λ tester. tester.text.items) playing.lines.items)
    ++ (playing.journal.text.items
    ++ (if only_journal then [] else end_text setup playing.server.ecu))
