-- The text of one entry more.
use Rattle.std.proofs.Common.{◌≡◌, ℕ, ◌+◌, Bool, true, false, Option, Some, None, List, [], ◌++◌, refl, ap, sym, ◌∙◌}
use Rattle.std.proofs.lemmas.List.{append-nil}
use Rattle.std.specs.Prelude.{IfSome}
use Rattle.std.specs.Option.{option_to_list}
use Rattle.diag_ecu.specs.State.{State}
use Rattle.diag_desk.specs.declared.entry.Entry.{Entry}
use Rattle.diag_desk.specs.declared.version.JournalVersion.TheVariants.{Stamped}
use Rattle.diag_desk.specs.Text.{ended, entry_line, journal_text_at, stamped_line, ticks_in, ticks_of}
use Rattle.diag_desk.proofs.ReadLemmas.{journal_text_at_more}
use Rattle.diag_port.specs.Standing.{HasKept}
use Rattle.uds_unit.specs.Entering.{Enters}
use Rattle.uds_unit.specs.Journal.{entered, entry_added}
use Rattle.uds_unit.specs.declared.entries.Entries.{Entries}

-- what is entered with the entry of an event
pub entered_more : (wanted : Bool) (K : List Entry) (asked : Option Entry) (now : ℕ) → IfSome asked (λ k. now ≡ ticks_of k.who K)
    → entered wanted (K ++ option_to_list asked) ≡ entered wanted K ++ entry_added wanted now asked
entered_more false K asked now h = refl
entered_more true K None now h = ap journal_text_at (append-nil K) ∙ sym (append-nil (journal_text_at K))
entered_more true K (Some k) now h =
    journal_text_at_more K k ∙ ap (λ t. journal_text_at K ++ ended (stamped_line Stamped (t + ticks_in k.step) (entry_line k))) (sym h)

-- what is entered for an event, with or without an entry
pub entered_asked : (old new : Entries) (ecu : State) (now : ℕ) (asked : Option Entry) → HasKept (λ k. Enters k ecu) old new now asked
    → new.text.now.items ≡ old.text.now.items ++ entry_added old.wanted now asked
entered_asked old new ecu now (Some k) kept = kept
entered_asked old new ecu now None kept =
    ap (λ (l : Entries). l.text.now.items) kept
    ∙ sym (ap (λ (w : List ℕ). old.text.now.items ++ w) (none_added old.wanted) ∙ append-nil old.text.now.items)
  where
    none_added : (wanted : Bool) → entry_added wanted now None ≡ []
    none_added true = refl
    none_added false = refl
