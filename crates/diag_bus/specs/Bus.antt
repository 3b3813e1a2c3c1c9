-- What a bus stands for: the lines of a capture that it took.
use Rattle.std.specs.Prelude.{◌≡◌, ◌≢◌, ℕ, ◌+◌, List, [], ◌∷◌, ◌++◌, length, Some, None, IfSome, OnOk, OnErr, Result, Err, slice_get}
use Rattle.diag_tp.specs.declared.sent.Sent.{Sent}
use Rattle.diag_setup.specs.declared.raw.RawSetup.{RawSetup}
use Rattle.diag_desk.specs.declared.entry.Entry.{Entry}
use Rattle.diag_port.specs.Port.{Grew}
use Rattle.diag_world.specs.Server.{ServerState, Serves}
use Rattle.diag_bus.specs.Clock.{StartsBelow, moment_end, resumed}
use Rattle.diag_bus.specs.Events.{clock_of, events_of, first_fault, line_fault, reference}
use Rattle.diag_bus.specs.Filled.{AreFilled}
use Rattle.diag_bus.specs.Node.{IsBy, IsRest, lists_of}
use Rattle.diag_bus.specs.Text.{sent_of, start_after}
use Rattle.diag_bus.specs.declared.clock.Clock.{Clock}
use Rattle.diag_bus.specs.declared.fault.BusFault.{BusFault}
use Rattle.diag_bus.specs.declared.fault.BusFault.TheVariants as fault
use Rattle.diag_bus.specs.declared.node.Node.{Node}

-- the server and the clock took these lines
pub record BusStands (setup : RawSetup) (server : ServerState) (clock : Clock)
    (lines : List (List ℕ)) : Type 0 where
  pub journal : List Entry
  pub serves : Serves setup server (events_of setup lines) journal
  pub reference : clock.reference ≡ reference setup lines
  pub time : clock.time ≡ clock_of setup lines
  pub start : (next : List (List ℕ)) → start_after setup 0 (lines ++ next)
      ≡ resumed setup clock.start clock.time next

-- they took this line after these, and each tester's list has the frames that it draws
pub record LineTaken (setup : RawSetup) (lines : List (List ℕ)) (line : List ℕ)
    (server : ServerState) (drawn : List (List Sent)) (clock : Clock) : Type 0 where
  pub stands : BusStands setup server clock (lines ++ line ∷ [])
  pub lists : length drawn ≡ length setup.testers
  pub frames : (i : ℕ) (frames : List Sent) → slice_get drawn i ≡ Some frames
      → sent_of setup (events_of setup (lines ++ line ∷ [])) (i + 1)
      ≡ sent_of setup (events_of setup lines) (i + 1) ++ frames

-- what a contract sees of a bus
pub record BusState (S : Type 0) : Type 0 where
  pub setup : RawSetup
  pub server : ServerState
  pub clock : Clock
  pub sink : S

-- what holds of the parts of a bus, whatever it took, also where a line was refused
abbrev pub AreSound : RawSetup → Node → Clock → Type 0
AreSound setup node clock = (length node.server.ports ≡ length setup.testers)
    × (length node.drawn.lists.items ≡ length setup.testers)
    × IsBy node.server clock.time
    × StartsBelow clock.start moment_end
    × AreFilled node.drawn.filled (lists_of node.drawn)
    × IsRest node.server node.rest

-- the bus took these lines, none of which is at fault, and so did its sink
pub record TookLines {S : Type 0} (took : S → RawSetup → List (List ℕ) → List Entry → Type 0) (bus : BusState S)
    (lines : List (List ℕ)) : Type 0 where
  pub well : first_fault bus.setup lines ≡ None
  pub stands : BusStands bus.setup bus.server bus.clock lines
  pub taken : took bus.sink bus.setup lines []

-- the bus took a line more, which writes this
abbrev pub TookLine : {S A : Type 0} → (S → RawSetup → List (List ℕ) → List Entry → Type 0) → (S → A)
    → (A → RawSetup → List (List ℕ) → List ℕ) → BusState S → BusState S → List ℕ → List ℕ → Type 0
TookLine took aim written old new line more = (lines : List (List ℕ)) → TookLines took old lines
    → TookLines took new (lines ++ line ∷ [])
    × (written (aim old.sink) old.setup (lines ++ line ∷ []) ≡ written (aim old.sink) old.setup lines ++ more)

-- where the line isn't taken, and memory was there, its fault is answered
abbrev pub IsItsFault : {S A : Type 0} → (S → RawSetup → List (List ℕ) → List Entry → Type 0) → BusState S → List ℕ
    → Result A BusFault → Type 0
IsItsFault took bus line result = (f : BusFault) → result ≡ Err f → f ≢ fault.Memory
    → (lines : List (List ℕ)) → TookLines took bus lines → line_fault bus.setup lines line ≡ Some f

-- a line at fault isn't taken
abbrev pub IsRefused : {S A : Type 0} → (S → RawSetup → List (List ℕ) → List Entry → Type 0) → BusState S → List ℕ
    → Result A BusFault → Type 0
IsRefused took bus line result = (lines : List (List ℕ)) → TookLines took bus lines
    → IfSome (line_fault bus.setup lines line) (λ f. result ≡ Err f)

-- the clauses of `Bus::take_line` in one: a line was given to the bus, and what it writes is behind this text
pub record AnswersLine {S A X : Type 0} (took : S → RawSetup → List (List ℕ) → List Entry → Type 0) (aim : S → A)
    (written : A → RawSetup → List (List ℕ) → List ℕ) (old new : BusState S) (line before after : List ℕ)
    (result : Result X BusFault) : Type 0 where
  pub takes : OnOk result (Grew before after (TookLine took aim written old new line))
  pub fault : IsItsFault took old line result
  pub first : IsRefused took old line result
  pub err : OnErr result (after ≡ before)
  pub setup : new.setup ≡ old.setup
  pub asked : aim new.sink ≡ aim old.sink
