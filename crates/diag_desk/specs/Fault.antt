-- Which line of a text is the first at fault.
use Rattle.std.specs.Prelude.{◌≡◌, ◌≤◌, ◌<◌, ◌+◌, ◌-◌, ◌⊎◌, ℕ, List, ◌++◌, length}
use Rattle.diag_desk.specs.declared.entry.Entry.{Entry}
use Rattle.diag_desk.specs.declared.version.JournalVersion.{JournalVersion}
use Rattle.diag_desk.specs.Entry.{IsJournal}
use Rattle.diag_desk.specs.Text.{text_of, journal_text, journal_text_at}

abbrev pub IsTextOf : List ℕ → List Entry → Type 0
IsTextOf text entries = (text ≡ journal_text entries) ⊎ (text ≡ journal_text_at entries)

-- the first n lines of a text are a journal's: the header, and n - 1 entries
pub record Begins (text : List ℕ) (n : ℕ) : Type 0 where
  pub version : JournalVersion
  pub entries : List Entry
  pub rest : List ℕ
  pub journal : IsJournal entries
  pub lines : length entries + 1 ≡ n
  pub is : text ≡ text_of version entries ++ rest

-- the first lines of a text, the header and an entry or more, are a journal's
pub record HasEntries (text : List ℕ) : Type 0 where
  pub lines : ℕ
  pub some : 2 ≤ lines
  pub begins : Begins text lines

-- line n, from 1, is the first at fault: the lines before it are a journal's, with it they are none's, and the text is
-- none's
pub record FaultAt (text : List ℕ) (n : ℕ) : Type 0 where
  pub some : 1 ≤ n
  pub before : 1 < n → Begins text (n - 1)
  pub fault : Begins text n → ⊥
  pub none : (entries : List Entry) → IsJournal entries → IsTextOf text entries → ⊥

-- a text is that of one journal
abbrev pub OneJournalLaw : Type 0
OneJournalLaw = (text : List ℕ) (entries others : List Entry)
    → IsJournal entries
    → IsJournal others
    → IsTextOf text entries
    → IsTextOf text others
    → entries ≡ others
