-- Replaying a journal's text as it is read.
use Rattle.std.specs.Prelude.{◌≡◌, ◌<◌, ◌≤◌, ℕ, Bool, true, false, List, [], ◌∷◌, ◌++◌, length, Some, None}
use Rattle.diag_setup.specs.declared.raw.RawSetup.{RawSetup}
use Rattle.hex.specs.Hex.{encode_upper}
use Rattle.diag_ecu.specs.Respond.{after_request, reply}
use Rattle.diag_ecu.specs.State.{State, opening}
use Rattle.diag_desk.specs.declared.entry.Entry.{Entry}
use Rattle.diag_desk.specs.declared.version.JournalVersion.{JournalVersion}
use Rattle.diag_desk.specs.declared.version.JournalVersion.TheVariants.{Plain}
use Rattle.diag_desk.specs.declared.following.Follower.{Follower}
use Rattle.diag_desk.specs.declared.following.Play.{Play}
use Rattle.diag_desk.specs.declared.following.TextReplay.{TextReplay}
use Rattle.diag_desk.specs.Clocks.{Tells}
use Rattle.diag_desk.specs.Entry.{IsEntry, IsJournal, IsMessage, IsReply, most_entries}
use Rattle.diag_desk.specs.Fault.{FaultAt, IsTextOf}
use Rattle.diag_desk.specs.Legal.{after, is_ticks}
use Rattle.diag_desk.specs.PartRead.{HasNext, PartRead}
use Rattle.diag_desk.specs.Replay.{DiffersAt, IsLegalFor}
use Rattle.diag_desk.specs.Text.{line_after, reply_text, text_of}

-- the text is that of these entries, which are legal for the setup and leave this state
pub record IsReplayed (setup : RawSetup) (text : List ℕ) (count : ℕ) (s : State) : Type 0 where
  pub entries : List Entry
  pub journal : IsJournal entries
  pub read : IsTextOf text entries
  pub run : IsLegalFor setup entries
  pub counted : count ≡ length entries
  pub state : s ≡ after (opening setup) entries

-- the text is that of entries of which the n-th is the first that differs
pub record TextDiffers (setup : RawSetup) (text : List ℕ) (n : ℕ) : Type 0 where
  pub entries : List Entry
  pub journal : IsJournal entries
  pub read : IsTextOf text entries
  pub at : DiffersAt setup entries n

-- these ticks are told of some journal
abbrev pub AreTold : List ℕ → Type 0
AreTold ticks = (past : List Entry) × IsJournal past × Tells ticks past

abbrev pub read_so_far : JournalVersion → List Entry → PartRead
read_so_far version past = record { version = version; entries = past }

-- what a play has made of the entries so far: the ECU is where they lead, or one differs
pub record Plays (setup : RawSetup) (play : Play) (past : List Entry) : Type 0 where
  pub run : play.differs ≡ None → IsLegalFor setup past × (play.ecu ≡ after (opening setup) past)
  pub differs : (n : ℕ) → play.differs ≡ Some n → DiffersAt setup past n

-- what was read and played so far
pub record Follows (setup : RawSetup) (f : Follower) (past : List Entry) : Type 0 where
  pub journal : IsJournal past
  pub clocks : Tells f.clocks.ticks past
  pub count : f.count ≡ length past
  pub play : Plays setup f.play past

-- one line more
pub record Followed (setup : RawSetup) (f new : Follower) (past : List Entry) (text : List ℕ) : Type 0 where
  pub entry : Entry
  pub is_entry : IsEntry entry
  pub line : line_after f.version past entry ≡ text
  pub follows : Follows setup new (past ++ entry ∷ [])

-- the line that comes next is that of a request, which the ECU is asked: its tester is in the setup, and no entry before it
-- differs
pub record AsksEcu (setup : RawSetup) (f : Follower) (past : List Entry) (text : List ℕ) : Type 0 where
  pub next : HasNext (read_so_far f.version past) text
  pub run : IsLegalFor setup past
  pub tester : next.entry.who ≤ length setup.testers
  pub request : is_ticks next.entry.step ≡ false

-- in the text stands such a line, and what is in front of it is that of these entries
pub record HasRequest (setup : RawSetup) (text : List ℕ) : Type 0 where
  pub version : JournalVersion
  pub past : List Entry
  pub entry : Entry
  pub rest : List ℕ
  pub journal : IsJournal past
  pub run : IsLegalFor setup past
  pub is_entry : IsEntry entry
  pub tester : entry.who ≤ length setup.testers
  pub request : is_ticks entry.step ≡ false
  pub is : text ≡ text_of version (past ++ entry ∷ []) ++ rest

-- a request and its reply at the front of a text, which are the ECU's, and what follows their line
pub record Answered (s new : State) (who : ℕ) (functional : Bool) (text rest : List ℕ) : Type 0 where
  pub message : List ℕ
  pub is_message : IsMessage message
  pub is_reply : IsReply (reply s who functional message)
  pub is : text ≡ encode_upper message ++ 32 ∷ (reply_text (reply s who functional message) ++ 10 ∷ rest)
  pub state : new ≡ after_request s who message

-- the next entry has room and no stamp, none before it differs, and its tester is in the setup
pub record IsUsual (setup : RawSetup) (f : Follower) (who : ℕ) : Type 0 where
  pub version : f.version ≡ Plain
  pub count : f.count < most_entries
  pub differs : f.play.differs ≡ None
  pub tester : who ≤ length setup.testers

-- one line more at the front of a text, and what follows it
pub record FollowedIn (setup : RawSetup) (f new : Follower) (past : List Entry) (text rest : List ℕ) : Type 0 where
  pub entry : Entry
  pub line : text ≡ line_after f.version past entry ++ 10 ∷ rest
  pub follows : Follows setup new (past ++ entry ∷ [])

-- this is the text of the entries that were read and played so far
pub record HasFollowed (setup : RawSetup) (f : Follower) (text : List ℕ) : Type 0 where
  pub past : List Entry
  pub follows : Follows setup f past
  pub is : text ≡ text_of f.version past

-- no line is at fault: nothing was taken before the header, and behind it the text of some entries
pub record IsWell (setup : RawSetup) (r : TextReplay) (text : List ℕ) : Type 0 where
  pub unheaded : r.headed ≡ false → (text ≡ []) × Follows setup r.follower []
  pub headed : r.headed ≡ true → HasFollowed setup r.follower text

-- these whole lines were taken: they are well, or a line is the first at fault, whatever follows them
pub record HasTaken (setup : RawSetup) (r : TextReplay) (text : List ℕ) : Type 0 where
  pub well : r.fault ≡ None → IsWell setup r text
  pub fault : (n : ℕ) → r.fault ≡ Some n → (more : List ℕ) → FaultAt (text ++ more) n
