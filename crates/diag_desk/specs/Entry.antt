-- The entries of the journal, and the room that is kept for the next one.
use Rattle.std.specs.Prelude.{ℕ, ◌+◌, ◌≤◌, ◌≡◌, List, [], ◌∷◌, ◌++◌, length, Option, Some, None, option_copied, unwrap_or}
use Rattle.hex.specs.Hex.{IsBytes}
use Rattle.diag_pdu.specs.declared.step.Step.{Step}
use Rattle.diag_pdu.specs.declared.step.Step.TheVariants.{Request, Ticks}
use Rattle.diag_pdu.specs.Request.{request_of}
use Rattle.diag_desk.specs.declared.entry.Entry.{Entry}
use Rattle.diag_desk.specs.declared.entry.EntryRef.{EntryRef}
use Rattle.diag_desk.specs.declared.entry.StepRef.{StepRef}
use Rattle.diag_desk.specs.declared.entry.StepRef.TheVariants as seen

-- the most entries of a journal
abbrev pub most_entries : ℕ
most_entries = 1000000

-- a journal: its entries, and how many more entries and bytes have room
pub record Kept : Type 0 where
  pub entries : List Entry
  pub entry_room : ℕ
  pub byte_room : ℕ

-- the step and the entry that a reference shows
abbrev pub step_seen : StepRef → Step
step_seen (seen.Request functional bytes) = Request (request_of functional bytes.now)
step_seen (seen.Ticks count) = Ticks count

abbrev pub entry_seen : EntryRef → Entry
entry_seen e = record { who = e.who; step = step_seen e.step; reply = option_copied e.reply }

-- the bytes of a step
abbrev pub step_len : Step → ℕ
step_len (Request request) = length request.message
step_len (Ticks count) = 0

-- the bytes that an entry of this step keeps
abbrev pub entry_bytes : Step → Option (List ℕ) → List ℕ
entry_bytes (Request request) reply = request.message ++ unwrap_or reply []
entry_bytes (Ticks count) reply = []

-- how many bytes those are
abbrev pub messages_len : Step → Option (List ℕ) → ℕ
messages_len (Request request) reply = length request.message + length (unwrap_or reply [])
messages_len (Ticks count) reply = 0

-- an entry of a request of so many bytes with any reply has room
abbrev pub HasRoomFor : Kept → ℕ → Type 0
HasRoomFor journal len = (1 ≤ journal.entry_room) × (len + 65535 ≤ journal.byte_room)

-- an entry of this step with any reply has room
abbrev pub HasRoom : Kept → Step → Type 0
HasRoom journal step = HasRoomFor journal (step_len step)

-- ticks have no reply
abbrev pub HasNoReply : Step → Option (List ℕ) → Type 0
HasNoReply (Request request) reply = Unit {0}
HasNoReply (Ticks count) reply = reply ≡ None

-- ---- what a journal can hold

-- a message: 1 to 65535 bytes
abbrev pub IsMessage : List ℕ → Type 0
IsMessage m = (1 ≤ length m) × (length m ≤ 65535) × IsBytes m

-- what a reply of a step can be
abbrev pub IsReply : Option (List ℕ) → Type 0
IsReply None = Unit {0}
IsReply (Some reply) = IsMessage reply

abbrev pub IsStep : Step → Option (List ℕ) → Type 0
IsStep (Request request) reply = IsMessage request.message × IsReply reply
IsStep (Ticks count) reply = (1 ≤ count) × (count ≤ 60000) × (reply ≡ None)

-- an entry of one of the eight testers
abbrev pub IsEntry : Entry → Type 0
IsEntry e = (1 ≤ e.who) × (e.who ≤ 8) × IsStep e.step e.reply

abbrev pub AreEntries : List Entry → Type 0
AreEntries [] = Unit {0}
AreEntries (e ∷ entries) = IsEntry e × AreEntries entries

-- the entries of a journal
abbrev pub IsJournal : List Entry → Type 0
IsJournal entries = AreEntries entries × (length entries ≤ most_entries)
