-- What was read so far of a journal's text.
use Rattle.std.specs.Prelude.{◌≡◌, ◌≢◌, ◌<◌, ℕ, List, ◌++◌, ◌∷◌, [], length}
use Rattle.diag_desk.specs.declared.entry.Entry.{Entry}
use Rattle.diag_desk.specs.declared.next.LineFault.{LineFault}
use Rattle.diag_desk.specs.declared.next.LineFault.TheVariants as line_fault
use Rattle.diag_desk.specs.declared.read.JournalFault.{JournalFault}
use Rattle.diag_desk.specs.declared.read.JournalFault.TheVariants as journal
use Rattle.diag_desk.specs.declared.version.JournalVersion.{JournalVersion}
use Rattle.diag_desk.specs.Entry.{IsEntry, most_entries}
use Rattle.diag_desk.specs.Text.{line_after}

pub record PartRead : Type 0 where
  pub version : JournalVersion
  pub entries : List Entry

-- no entry has the line that comes next
abbrev pub IsNoNext : PartRead → List ℕ → Type 0
IsNoNext r text = (e : Entry) → IsEntry e → line_after r.version r.entries e ≢ text

-- the same where no more entries have room
abbrev pub HasNoNext : PartRead → List ℕ → Type 0
HasNoNext r text =
    (e : Entry) → IsEntry e → length r.entries < most_entries → line_after r.version r.entries e ≢ text

-- an entry that has room has the line that comes next
pub record HasNext (r : PartRead) (text : List ℕ) : Type 0 where
  pub entry : Entry
  pub is_entry : IsEntry entry
  pub room : length r.entries < most_entries
  pub line : line_after r.version r.entries entry ≡ text

-- one line more
pub record Took (r n : PartRead) (text : List ℕ) : Type 0 where
  pub entry : Entry
  pub is_entry : IsEntry entry
  pub line : line_after r.version r.entries entry ≡ text
  pub version : n.version ≡ r.version
  pub entries : n.entries ≡ r.entries ++ entry ∷ []

-- the fault of a text whose line of this number is not taken
abbrev pub fault_at : ℕ → LineFault → JournalFault
fault_at n line_fault.Wrong = journal.Line n
fault_at n line_fault.Memory = journal.Memory
