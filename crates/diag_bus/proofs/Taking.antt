-- A bus takes a line more.
use Rattle.diag_setup.specs.Setup.{known_ids}
use Rattle.std.proofs.Common.{◌≡◌, ◌≤◌, ℕ, ◌+◌, false, List, [], ◌∷◌, ◌++◌, Option, Some, None, Ok, Err, length, refl, ap, ap₂, subst, sym, ◌∙◌, arith}
use Rattle.std.proofs.lemmas.Bool.Decides.{nat_tests}
use Rattle.std.specs.Prelude.{IfSome, nat_lt, slice_get}
use Rattle.diag_can.specs.Log.{waited}
use Rattle.diag_can.specs.declared.bus_line.BusLine.{BusLine}
use Rattle.diag_tp.specs.declared.sent.Sent.{Sent}
use Rattle.diag_setup.specs.declared.raw.RawSetup.{RawSetup}
use Rattle.diag_desk.specs.declared.entry.Entry.{Entry}
use Rattle.diag_port.specs.Port.{Grew}
use Rattle.diag_world.specs.Server.{ServerView, closing_time, server_of}
use Rattle.diag_bus.specs.Bus.{AnswersLine, AreSound, BusStands, BusState, TookLine, TookLines}
use Rattle.diag_bus.specs.Clock.{GoesOn, SaidBelow, StartsBelow, moment_end}
use Rattle.diag_bus.specs.Events.{fault_said, line_fault, line_said, said_gives, span_said, time_said}
use Rattle.diag_bus.specs.Node.{AreSentBy, Gave, HasTime, IsBy, IsReady, SameShape, SentIn, TookTime, lists_of}
use Rattle.diag_bus.specs.Sink.{EndsLine, StaysFor}
use Rattle.diag_bus.specs.declared.clock.Clock.{Clock}
use Rattle.diag_bus.specs.declared.fault.BusFault.{BusFault}
use Rattle.diag_bus.specs.declared.node.Node.{Node}
use Rattle.diag_bus.proofs.Faults.{well_more}
use Rattle.diag_bus.proofs.Lines.{line_taken}
use Rattle.diag_bus.proofs.Paces.{line_paced, sent_nothing}
use Rattle.diag_bus.proofs.Stamps.{bus_line_low}

-- what a contract sees of a bus with this node, this clock and this sink
abbrev pub seen : {S : Type 0} → RawSetup → Node → Clock → S → BusState S
seen setup node clock sink = record { setup = setup; server = server_of node.server; clock = clock; sink = sink }

-- a line that is well by the bus's clock is at no fault
line_well : {S : Type 0} (took : S → RawSetup → List (List ℕ) → List Entry → Type 0) (bus : BusState S) (line : List ℕ) → fault_said (line_said bus.setup line) (bus.clock.time + span_said bus.clock.reference (line_said bus.setup line)) ≡ None
    → (lines : List (List ℕ)) → TookLines took bus lines → line_fault bus.setup lines line ≡ None
line_well took bus line well lines h =
    ap₂ (λ time reference. fault_said (line_said bus.setup line) (time + span_said reference (line_said bus.setup line))) (sym h.stands.time) (sym h.stands.reference) ∙ well

-- a line by which the clocks go on in time
pub well_time : (setup : RawSetup) (clock : Clock) (line : List ℕ) (said : BusLine) (time : ℕ) → line_said setup line ≡ Ok said
    → time ≡ clock.time + span_said clock.reference (Ok said) → time ≤ closing_time
    → fault_said (line_said setup line) (clock.time + span_said clock.reference (line_said setup line)) ≡ None
well_time setup clock line said time says is early =
    let below : nat_lt closing_time (clock.time + span_said clock.reference (Ok said)) ≡ false = grind (arith, nat_tests) in
    rw (says, below) refl

ok_is_no_err : {A : Type 0} {x : A} {f : BusFault} → Ok x ≡ Err f → ⊥
ok_is_no_err h = cc

-- what a line says by the setup of the bus's parts
pub said_inside : {S : Type 0} {inside bus : BusState S} {said : BusLine} (line : List ℕ) → inside ≡ bus → line_said bus.setup line ≡ Ok said
    → line_said inside.setup line ≡ Ok said
said_inside {S} {inside} {bus} line is says = ap (λ (b : BusState S). line_said b.setup line) is ∙ says

-- the line begins, what it says is given to the server, and its end to the sink
pub took_line : {S A X : Type 0} {x : X} {text text' : List ℕ} {said : BusLine} {old begun taken : Node} {clock clock' : Clock}
    (took : S → RawSetup → List (List ℕ) → List Entry → Type 0) (is_for : S → RawSetup → Type 0) (aim : S → A) (written : A → RawSetup → List (List ℕ) → List ℕ)
    (bus : BusState S) (setup : RawSetup) (line : List ℕ) (span : ℕ) (sink told done : S)
    → seen setup old clock sink ≡ bus
    → AreSound setup old clock
    → line_said setup line ≡ Ok said → fault_said (line_said setup line) (clock.time + span_said clock.reference (line_said setup line)) ≡ None → GoesOn setup clock said clock'
    → ((i : ℕ) (frames : List Sent) → slice_get (lists_of begun.drawn) i ≡ Some frames → frames ≡ []) → begun.server ≡ old.server
    → SameShape old begun
    → waited span ≡ time_said clock.reference said
    → Gave took begun sink taken told (said_gives setup clock.reference said) → SameShape begun taken → StaysFor is_for aim sink told
    → Grew text text' (EndsLine took aim written setup told done said span clock' taken.drawn) → StaysFor is_for aim told done
    → AnswersLine took aim written bus (seen setup taken clock' done) line text text' (Ok x)
took_line {S} {A} {X} {x} {text} {text'} {said} {old} {begun} {taken} {clock} {clock'} took is_for aim written bus setup line span sink told done view sound is well on empty
    server first waits gave second kept grew kept' =
    let holds : TookLine took aim written (seen setup old clock sink) (seen setup taken clock' done) line grew.more = λ lines h.
    let stands : BusStands setup (server_of begun.server) clock lines =
    subst (λ (s : ServerView). BusStands setup (server_of s) clock lines) (sym server) h.stands in
    let t = line_taken took setup lines line said begun taken sink told clock clock' is stands on (first.lists ∙ sound.1) empty h.taken gave in
    let ends = grew.holds lines line t.1 (record {
      says = is;
      waits = waits ∙ ap (λ r. time_said r said) h.stands.reference;
      server = server_of taken.server;
      taken = t.0;
      run = t.2;
    }) t.3 in (
      record {
        well = well_more setup lines line h.well (line_well took (seen setup old clock sink) line well lines h);
        stands = t.0.stands;
        taken = ends.0;
      },
      ap (λ a. written a setup (lines ++ line ∷ [])) (sym kept.1) ∙ (ends.1 ∙ ap (λ a. written a setup lines ++ grew.more) kept.1),
    ) in
    subst (λ (b : BusState S). AnswersLine took aim written b (seen setup taken clock' done) line text text' (Ok x)) view (record {
      takes = record { more = grew.more; grown = grew.grown; holds = holds };
      fault = λ f is. absurd (ok_is_no_err is);
      first = λ lines h. subst (λ (o : Option BusFault). IfSome o (λ f. Ok x ≡ Err f)) (sym (line_well took (seen setup old clock sink) line well lines h)) tt;
      err = tt;
      setup = refl;
      asked = kept'.1 ∙ kept.1;
    })

-- ---- what holds whatever the bus took

-- what a line says was given, or as much of it as memory was there for
pub sound_taken : {said : BusLine} {old begun taken : Node} {clock clock' : Clock} (setup : RawSetup) (line : List ℕ)
    → AreSound setup old clock → line_said setup line ≡ Ok said → GoesOn setup clock said clock'
    → ((most : ℕ) → StartsBelow clock.start most → SaidBelow said most → StartsBelow clock'.start most)
    → begun.server ≡ old.server → SameShape old begun → SameShape begun taken → TookTime begun.server taken.server (span_said clock.reference (Ok said))
    → AreSound setup taken clock'
sound_taken {said} {old} {begun} {taken} {clock} {clock'} setup line h is on start server first second took = (
  second.ports ∙ (first.ports ∙ h.0),
  second.lists ∙ (first.lists ∙ h.1),
  line_paced setup begun.server taken.server clock clock' said on (subst (λ (s : ServerView). IsBy s clock.time) (sym server) h.2) took,
  start moment_end h.3 (bus_line_low (known_ids setup) line said is),
  second.filled (first.filled h.4),
  second.rest (first.rest h.5),
)

-- ---- the clocks of a line that begins

module _ (setup : RawSetup) (old begun : Node) (clock : Clock) (sound : AreSound setup old clock)
    (server : begun.server ≡ old.server) (span : ℕ) (early : clock.time + span ≤ closing_time) where
  begun_by : IsBy begun.server clock.time
  begun_by = subst (λ (s : ServerView). IsBy s clock.time) (sym server) sound.2

  -- there is time for what it says
  has_time : HasTime begun.server span
  has_time = record { time = clock.time; by = begun_by; early = early }

  -- the line that begins is ready for it
  pub is_ready : SameShape old begun → IsReady begun (length setup.testers) span
  is_ready shape = record { in_setup = shape.ports ∙ sound.0; lists = shape.lists ∙ sound.1; early = has_time; rest = shape.rest sound.5 }

  -- and what that draws is sent in time
  pub sent_in_time : (taken : Node) → ((i : ℕ) (frames : List Sent) → slice_get (lists_of begun.drawn) i ≡ Some frames → frames ≡ []) → SentIn begun taken span
      → AreSentBy (lists_of taken.drawn) closing_time
  sent_in_time taken empty sent = sent clock.time closing_time begun_by early (sent_nothing (lists_of begun.drawn) closing_time empty)
