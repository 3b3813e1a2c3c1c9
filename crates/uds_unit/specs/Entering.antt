-- The entries of a call, as they are written.
use Rattle.std.specs.Prelude.{◌≡◌, ℕ, ◌++◌, Some}
use Rattle.diag_ecu.specs.State.{State}
use Rattle.diag_desk.specs.declared.entry.Entry.{Entry}
use Rattle.uds_unit.specs.Journal.{entry_added}
use Rattle.uds_unit.specs.declared.entries.Entries.{Entries}

-- the entry is in the text, where a journal is wanted, before which its tester's clock told this time
abbrev pub Enters : Entries → State → ℕ → Entry → Entries → Type 0
Enters old ecu before k new =
    new.text.now.items ≡ old.text.now.items ++ entry_added old.wanted before (Some k)
