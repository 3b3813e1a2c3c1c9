-- The text of a unit's journal.
use Rattle.std.specs.Prelude.{ℕ, ◌+◌, Bool, true, false, List, [], Option, Some, None}
use Rattle.diag_desk.specs.declared.entry.Entry.{Entry}
use Rattle.diag_desk.specs.declared.version.JournalVersion.TheVariants as version
use Rattle.diag_desk.specs.Text.{ended, entry_line, journal_text_at, stamped_line, ticks_in}

-- the text of the entries, where a journal is wanted
abbrev pub entered : Bool → List Entry → List ℕ
entered false entries = []
entered true entries = journal_text_at entries

-- what an entry adds to it, before which its tester's clock tells this time
abbrev pub entry_added : Bool → ℕ → Option Entry → List ℕ
entry_added false now asked = []
entry_added true now None = []
entry_added true now (Some e) = ended (stamped_line version.Stamped (now + ticks_in e.step) (entry_line e))
