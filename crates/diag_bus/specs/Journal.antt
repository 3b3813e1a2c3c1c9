-- What the journal's sink has of the line that is under way.
use Rattle.std.specs.Prelude.{◌≡◌, ℕ, ◌+◌, List, ◌++◌}
use Rattle.diag_setup.specs.declared.raw.RawSetup.{RawSetup}
use Rattle.diag_desk.specs.Text.{ended, entry_line, journal_text_at, stamped_line, ticks_in}
use Rattle.diag_desk.specs.declared.entry.Entry.{Entry}
use Rattle.diag_desk.specs.declared.version.JournalVersion.TheVariants.{Stamped}
use Rattle.diag_bus.specs.Events.{events_of}
use Rattle.diag_bus.specs.Text.{journal_text_of, run_of}
use Rattle.diag_bus.specs.declared.journal.Journal.{Journal}

-- the line of an entry, before which its tester's clock tells this time
abbrev pub entry_text : ℕ → Entry → List ℕ
entry_text now k = ended (stamped_line Stamped (now + ticks_in k.step) (entry_line k))

-- the text of the journal with these entries more is that before the line, with what the sink has behind it
abbrev pub TookEntries : Journal → RawSetup → List (List ℕ) → List Entry → Type 0
TookEntries journal setup lines K =
    journal_text_at (run_of setup (events_of setup lines) ++ K) ≡ journal_text_of setup lines ++ journal.text.items
