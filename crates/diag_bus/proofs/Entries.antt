-- The text of one entry more.
use Rattle.std.proofs.Common.{◌≡◌, ℕ, ◌+◌, List, [], ◌∷◌, ◌++◌, ap, sym, ◌∙◌, append_assoc}
use Rattle.std.proofs.lemmas.List.{append-nil}
use Rattle.diag_setup.specs.declared.raw.RawSetup.{RawSetup}
use Rattle.diag_desk.specs.declared.entry.Entry.{Entry}
use Rattle.diag_desk.specs.declared.version.JournalVersion.TheVariants.{Stamped}
use Rattle.diag_desk.specs.Text.{ended, entry_line, journal_text_at, stamped_line, ticks_in, ticks_of}
use Rattle.diag_desk.proofs.ReadLemmas.{journal_text_at_more}
use Rattle.diag_bus.specs.Journal.{TookEntries, entry_text}
use Rattle.diag_bus.specs.Sink.{journal_of}
use Rattle.diag_bus.specs.Text.{journal_text_of}
use Rattle.diag_bus.specs.declared.journal.Journal.{Journal}

-- of a line that is under way an entry more was written
pub entry_more : (old new : Journal) (setup : RawSetup) (lines : List (List ℕ)) (K : List Entry) (k : Entry) (now : ℕ)
    → new.text.items ≡ old.text.items ++ entry_text now k → now ≡ ticks_of k.who (journal_of setup lines ++ K)
    → TookEntries old setup lines K → TookEntries new setup lines (K ++ k ∷ [])
entry_more old new setup lines K k now wrote is h =
    let J = journal_of setup lines in
    sym (ap journal_text_at (append_assoc J K (k ∷ [])))
    ∙ (journal_text_at_more (J ++ K) k
    ∙ (ap (λ t. journal_text_at (J ++ K) ++ ended (stamped_line Stamped (t + ticks_in k.step) (entry_line k))) (sym is)
    ∙ (ap (λ w. w ++ entry_text now k) h
    ∙ (append_assoc (journal_text_of setup lines) old.text.items (entry_text now k)
    ∙ ap (λ w. journal_text_of setup lines ++ w) (sym wrote)))))

-- before the first entry of a line nothing is written of it
pub none_entered : (journal : Journal) (setup : RawSetup) (lines : List (List ℕ)) → journal.text.items ≡ [] → TookEntries journal setup lines []
none_entered journal setup lines none =
    ap journal_text_at (append-nil (journal_of setup lines))
    ∙ (sym (append-nil (journal_text_of setup lines)) ∙ ap (λ w. journal_text_of setup lines ++ w) (sym none))

-- with its entries the text is that of the journal behind the line
pub line_entered : (journal : Journal) (setup : RawSetup) (lines : List (List ℕ)) (line : List ℕ) (K : List Entry)
    → journal_of setup (lines ++ line ∷ []) ≡ journal_of setup lines ++ K → TookEntries journal setup lines K
    → journal_text_of setup (lines ++ line ∷ []) ≡ journal_text_of setup lines ++ journal.text.items
line_entered journal setup lines line K run h = ap journal_text_at run ∙ h
