-- How the bus goes on with one line more.
use Rattle.std.proofs.Common.{◌≡◌, ℕ, ◌+◌, max, Option, Some, None, List, [], ◌∷◌, ◌++◌, length, refl, ap, ap₂, subst, sym, ◌∙◌, append_assoc, Ok}
use Rattle.std.proofs.lemmas.List.{append-nil, length-map}
use Rattle.std.proofs.lemmas.List.Elements.{filter_map-append}
use Rattle.std.specs.List.{filter_map, flat_map, reduce}
use Rattle.std.specs.Prelude.{slice_get}
use Rattle.diag_can.specs.Reading.{later}
use Rattle.diag_can.proofs.Reading.{reduce-option}
use Rattle.diag_can.specs.declared.bus_line.BusLine.{BusLine}
use Rattle.diag_can.specs.Event.{Event}
use Rattle.diag_tp.specs.declared.sent.Sent.{Sent}
use Rattle.diag_setup.specs.declared.raw.RawSetup.{RawSetup}
use Rattle.diag_ecu.specs.State.{State, opening}
use Rattle.diag_desk.specs.declared.entry.Entry.{Entry}
use Rattle.diag_desk.specs.Entries.{asked_by}
use Rattle.diag_desk.specs.Legal.{Legal, after_step}
use Rattle.diag_world.specs.Server.{ServerState, Serves, sent_to, server_of}
use Rattle.diag_bus.specs.Bus.{BusStands, LineTaken}
use Rattle.diag_bus.specs.Clock.{GoesOn, resumed, resumed_by}
use Rattle.diag_bus.specs.Events.{events_after, events_of, frame_to, gives_if_well, line_events, line_said, moment_said, reference, said_gives, span_said}
use Rattle.diag_bus.specs.Node.{Drew, Gave, lists_of}
use Rattle.diag_bus.specs.Sink.{journal_of}
use Rattle.diag_bus.proofs.Faults.{clock_more}
use Rattle.diag_bus.specs.declared.node.Node.{Node}
use Rattle.diag_bus.specs.Text.{answered, run_of, start_after, start_said}
use Rattle.diag_bus.specs.declared.clock.Clock.{Clock}
use Rattle.diag_bus.specs.declared.clock.Start.{Start}

-- ---- what a line says

pub frames_none : (setup : RawSetup) (ts : List ℕ) → flat_map (frame_to setup None) ts ≡ []
frames_none setup [] = refl
frames_none setup (t ∷ ts) = frames_none setup ts

-- ---- the run

-- a legal journal is the one that its steps have
pub one_journal : (s : State) (K : List Entry) → Legal s K → K ≡ answered s (asked_by K)
one_journal s [] h = refl
one_journal s (k ∷ K) h = ap₂ (λ (e : Entry) (rest : List Entry). e ∷ rest)
    (ap (λ r. (let e : Entry = record { who = k.who; step = k.step; reply = r } in e)) h.0) (one_journal (after_step s k.who k.step) K h.1)

pub run_is : (setup : RawSetup) (server : ServerState) (M : List (ℕ × Event)) (K : List Entry) → Serves setup server M K → K ≡ run_of setup M
run_is setup server M K h = one_journal (opening setup) K h.legal ∙ ap (answered (opening setup)) h.run

-- ---- the lines

events_push_after : (setup : RawSetup) (past lines : List (List ℕ)) (line : List ℕ)
    → events_after setup past (lines ++ line ∷ []) ≡ events_after setup past lines ++ line_events setup (past ++ lines) line
events_push_after setup past [] line = append-nil (line_events setup past line) ∙ ap (λ p. line_events setup p line) (sym (append-nil past))
events_push_after setup past (first ∷ lines) line =
    let here = line_events setup past first in
    ap (λ w. here ++ w) (events_push_after setup (past ++ first ∷ []) lines line
    ∙ ap (λ p. events_after setup (past ++ first ∷ []) lines ++ line_events setup p line) (append_assoc past (first ∷ []) lines))
    ∙ sym (append_assoc here (events_after setup (past ++ first ∷ []) lines) (line_events setup (past ++ first ∷ lines) line))

pub events_push : (setup : RawSetup) (lines : List (List ℕ)) (line : List ℕ)
    → events_of setup (lines ++ line ∷ []) ≡ events_of setup lines ++ line_events setup lines line
events_push setup lines line = events_push_after setup [] lines line

pub reference_more : (setup : RawSetup) (past : List (List ℕ)) (line : List ℕ)
    → reference setup (past ++ line ∷ []) ≡ later (reference setup past) (moment_said (line_said setup line))
reference_more setup past line =
    let f = λ (l : List ℕ). moment_said (line_said setup l) in
    ap (reduce max) (filter_map-append f past (line ∷ [])) ∙ reduce-option (filter_map f past) (f line)

resumed_step : (setup : RawSetup) (start : Option Start) (before : ℕ) (said : BusLine) (line : List ℕ) (next : List (List ℕ))
    → line_said setup line ≡ Ok said → resumed setup start before (line ∷ next) ≡ resumed_by setup start before said next
resumed_step setup (Some start) before said line next is = refl
resumed_step setup None before said line next is = ap (λ r. start_said before r (λ sum. start_after setup sum next)) is

-- ---- one line more

module _ {S : Type 0} (took : S → RawSetup → List (List ℕ) → List Entry → Type 0) where
  -- a line begins: the testers' lists are empty, and nothing of it was entered
  pub drew_none : (setup : RawSetup) (node : Node) (sink : S) (lines : List (List ℕ)) (M : List (ℕ × Event)) (K : List Entry)
      → Serves setup (server_of node.server) M K → K ≡ run_of setup (events_of setup lines)
      → length node.drawn.lists.items ≡ length setup.testers → ((i : ℕ) (frames : List Sent) → slice_get (lists_of node.drawn) i ≡ Some frames → frames ≡ [])
      → took sink setup lines []
      → Drew took setup node sink (sent_to setup M K) lines M
  drew_none setup node sink lines M K h run lists empty taken = record {
    journal = K;
    serves = h;
    lists = lists;
    frames = λ i frames at. sym (append-nil (sent_to setup M K (i + 1))) ∙ ap (λ w. sent_to setup M K (i + 1) ++ w) (sym (empty i frames at));
    entries = [];
    run = run ∙ sym (append-nil (run_of setup (events_of setup lines)));
    entered = taken;
  }

  -- a line was taken: server and clock stand for the lines with it, it drew what these have more, and the sink was told of
  -- the entries that the journal has more
  pub line_taken : (setup : RawSetup) (lines : List (List ℕ)) (line : List ℕ) (said : BusLine) (old new : Node) (sink sink' : S) (clock clock' : Clock)
      → line_said setup line ≡ Ok said → BusStands setup (server_of old.server) clock lines → GoesOn setup clock said clock'
      → length old.drawn.lists.items ≡ length setup.testers → ((i : ℕ) (frames : List Sent) → slice_get (lists_of old.drawn) i ≡ Some frames → frames ≡ [])
      → took sink setup lines []
      → Gave took old sink new sink' (said_gives setup clock.reference said)
      → LineTaken setup lines line (server_of new.server) (lists_of new.drawn) clock'
      × (K : List Entry) × (journal_of setup (lines ++ line ∷ []) ≡ journal_of setup lines ++ K) × took sink' setup lines K
  line_taken setup lines line said old new sink sink' clock clock' is h on lists empty taken gave =
      let M = events_of setup lines in
      let M' = events_of setup (lines ++ line ∷ []) in
      let base = sent_to setup M h.journal in
      let run = run_is setup (server_of old.server) M h.journal h.serves in
      let d0 = gave setup base lines M (drew_none setup old sink lines M h.journal h.serves run lists empty taken) in
      let more : M ++ said_gives setup clock.reference said ≡ M' =
      ap (λ r. M ++ said_gives setup r said) h.reference
      ∙ (ap (λ r. M ++ gives_if_well setup (reference setup lines) r) (sym is) ∙ sym (events_push setup lines line)) in
      let d : Drew took setup new sink' base lines M' = subst (λ N. Drew took setup new sink' base lines N) more d0 in
      let run' = run_is setup (server_of new.server) M' d.journal d.serves in
      let spent : span_said clock.reference (Ok said) ≡ span_said (reference setup lines) (line_said setup line) =
      ap (λ r. span_said r (Ok said)) h.reference ∙ ap (λ r. span_said (reference setup lines) r) (sym is) in (
        record {
          stands = record {
            journal = d.journal;
            serves = d.serves;
            reference = on.reference ∙ (ap₂ later h.reference (ap moment_said (sym is)) ∙ sym (reference_more setup lines line));
            time = on.time ∙ (ap₂ ◌+◌ h.time spent ∙ sym (clock_more setup lines line));
            start = λ next. ap (start_after setup 0) (append_assoc lines (line ∷ []) next)
                ∙ (h.start (line ∷ next) ∙ (resumed_step setup clock.start clock.time said line next is ∙ on.start next));
          };
          lists = length-map new.drawn.lists.items (λ f. f.items) ∙ d.lists;
          frames = λ i frames at.
              sym (ap (λ K. sent_to setup M' K (i + 1)) run') ∙ (d.frames i frames at ∙ ap (λ K. sent_to setup M K (i + 1) ++ frames) run);
        },
        d.entries,
        sym run' ∙ d.run,
        d.entered,
      )
