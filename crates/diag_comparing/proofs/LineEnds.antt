-- The end of a line, as the bus tells it to a sink.
use Rattle.std.proofs.Common.{◌≡◌, ℕ, ◌+◌, Option, Some, None, List, [], ◌∷◌, ◌++◌, length, drop, refl, ap, ap₂, sym, ◌∙◌}
use Rattle.std.proofs.lemmas.List.{append-nil}
use Rattle.diag_can.specs.declared.bus_line.BusLine.{BusLine}
use Rattle.diag_setup.specs.declared.raw.RawSetup.{RawSetup}
use Rattle.diag_tp.specs.declared.sent.Sent.{Sent}
use Rattle.diag_desk.specs.declared.entry.Entry.{Entry}
use Rattle.diag_bus.specs.Clock.{resumed}
use Rattle.diag_bus.specs.Sink.{LineEnds, journal_of}
use Rattle.diag_bus.specs.Text.{ecu_after, start_after}
use Rattle.diag_bus.specs.declared.clock.Clock.{Clock}
use Rattle.diag_bus.specs.declared.clock.Start.{Start}
use Rattle.diag_compare.specs.Hearing.{in_states}
use Rattle.diag_compare.proofs.Questions.{drop_front}
use Rattle.diag_comparing.specs.Keeping.{Ends, IsLine}

resumed_by_none : (setup : RawSetup) (start : Option Start) (time : ℕ) → resumed setup start time [] ≡ start
resumed_by_none setup None time = refl
resumed_by_none setup (Some start) time = refl

module _ (setup : RawSetup) (lines : List (List ℕ)) (line : List ℕ) (said : BusLine) (span : ℕ) (clock : Clock) (K : List Entry) where
  pub line_ends : (drawn : List (List Sent)) → LineEnds setup lines line said span clock drawn K → Ends setup lines line said span clock K
  line_ends drawn e = record {
    says = e.says;
    waits = e.waits;
    time = e.taken.stands.time;
    start = sym (resumed_by_none setup clock.start clock.time)
        ∙ (sym (e.taken.stands.start []) ∙ ap (start_after setup 0) (append-nil (lines ++ line ∷ [])));
    entries = ap (in_states (ecu_after setup lines)) (ap (drop (length (journal_of setup lines))) e.run ∙ drop_front (journal_of setup lines) K);
  }

  pub is_line : (number : ℕ) → number ≡ length lines + 1 → Ends setup lines line said span clock K
      → IsLine setup lines line said span (record { number = number; moment = clock.time }) K
  is_line number is e = record {
    says = e.says;
    waits = e.waits;
    stands = ap₂ (λ (n m : ℕ). record { number = n; moment = m }) is e.time;
    entries = e.entries;
  }
