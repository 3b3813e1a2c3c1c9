-- What the methods of a sink do.
use Rattle.std.specs.Prelude.{◌≡◌, ℕ, List, [], ◌∷◌, ◌++◌, length, Ok}
use Rattle.diag_can.specs.Log.{waited}
use Rattle.diag_can.specs.declared.bus_line.BusLine.{BusLine}
use Rattle.diag_setup.specs.declared.raw.RawSetup.{RawSetup}
use Rattle.diag_tp.specs.declared.sent.Sent.{Sent}
use Rattle.diag_ecu.specs.State.{State}
use Rattle.diag_desk.specs.Legal.{after}
use Rattle.diag_desk.specs.Text.{ticks_of}
use Rattle.diag_desk.specs.declared.entry.Entry.{Entry}
use Rattle.diag_world.specs.Server.{ServerState, closing_time}
use Rattle.diag_bus.specs.Bus.{LineTaken}
use Rattle.diag_bus.specs.Clock.{StartsBelow, moment_end}
use Rattle.diag_bus.specs.Events.{events_of, line_said, reference, time_said}
use Rattle.diag_bus.specs.Filled.{AreFilled}
use Rattle.diag_bus.specs.Node.{AreSentBy, lists_of}
use Rattle.diag_bus.specs.Text.{ecu_after, run_of}
use Rattle.diag_bus.specs.declared.clock.Clock.{Clock}
use Rattle.diag_bus.specs.declared.line_frames.LineFrames.{LineFrames}

-- the journal of the run of these lines
abbrev pub journal_of : RawSetup → List (List ℕ) → List Entry
journal_of setup lines = run_of setup (events_of setup lines)

-- Of a line that is under way the sink took an entry more: the ECU before it is that of the run, and what its tester's
-- clock told is the ticks that the run has of it.
abbrev pub Enters : {S : Type 0} → (S → RawSetup → List (List ℕ) → List Entry → Type 0) → S → S → State → ℕ → Entry → Type 0
Enters took old new ecu before k = (setup : RawSetup) (lines : List (List ℕ)) (K : List Entry)
    → ecu ≡ after (ecu_after setup lines) K
    → before ≡ ticks_of k.who (journal_of setup lines ++ K)
    → took old setup lines K
    → took new setup lines (K ++ k ∷ [])

-- it is for the setup that it was begun for, and what it is asked for is as before
abbrev pub StaysFor : {S A : Type 0} → (S → RawSetup → Type 0) → (S → A) → S → S → Type 0
StaysFor is_for aim old new = ((setup : RawSetup) → is_for old setup → is_for new setup) × (aim new ≡ aim old)

-- the lists of a line are those of the setup's testers, and their frames can be written
pub record IsDrawn (setup : RawSetup) (clock : Clock) (drawn : LineFrames) : Type 0 where
  pub lists : length drawn.lists.items ≡ length setup.testers
  pub start : StartsBelow clock.start moment_end
  pub sent : AreSentBy (lists_of drawn) closing_time
  pub filled : AreFilled drawn.filled (lists_of drawn)

-- A line says this, behind these lines: so many milliseconds pass, then the journal of the run has these entries more; the
-- clock is this behind it, and these frames are drawn.
pub record LineEnds (setup : RawSetup) (lines : List (List ℕ)) (line : List ℕ) (said : BusLine) (span : ℕ) (clock : Clock)
    (drawn : List (List Sent)) (K : List Entry) : Type 0 where
  pub says : line_said setup line ≡ Ok said
  pub waits : waited span ≡ time_said (reference setup lines) said
  pub server : ServerState
  pub taken : LineTaken setup lines line server drawn clock
  pub run : journal_of setup (lines ++ line ∷ []) ≡ journal_of setup lines ++ K

-- the sink took the end of a line, and wrote this
abbrev pub EndsLine : {S A : Type 0} → (S → RawSetup → List (List ℕ) → List Entry → Type 0) → (S → A)
    → (A → RawSetup → List (List ℕ) → List ℕ) → RawSetup → S → S → BusLine → ℕ → Clock → LineFrames → List ℕ → Type 0
EndsLine took aim written setup old new said span clock drawn more = (lines : List (List ℕ)) (line : List ℕ) (K : List Entry)
    → LineEnds setup lines line said span clock (lists_of drawn) K
    → took old setup lines K
    → took new setup (lines ++ line ∷ []) []
    × (written (aim old) setup (lines ++ line ∷ []) ≡ written (aim old) setup lines ++ more)
