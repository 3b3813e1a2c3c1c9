-- The library and a capture's run are of the same definitions.
use Rattle.std.specs.Prelude.{◌≡◌, ℕ, List, [], ◌∷◌, map, Option, Ok}
use Rattle.std.specs.List.{flat_map}
use Rattle.diag_can.specs.Line.{frame_for}
use Rattle.diag_can.specs.declared.bus_line.BusLine.TheVariants.{Stamped}
use Rattle.diag_can.specs.declared.frame.Frame.{Frame}
use Rattle.diag_setup.specs.Setup.{ids_of}
use Rattle.diag_setup.specs.declared.raw.RawSetup.{RawSetup}
use Rattle.diag_bus.specs.Events.{events_of, line_said}
use Rattle.diag_bus.specs.Text.{line_of, run_of, start_after, text_of}
use Rattle.uds_unit.specs.History.{Call, At, History, history, journal_of}

-- moments, each with the frame then, if any, as calls
abbrev pub calls_of : List (ℕ × Option Frame) → List Call
calls_of given = map (λ g. At g.0 g.1) given

-- a stamped line of a capture says this moment, and what it says is to each tester what this frame is: so a frame of nobody
-- stands for a line that is passed over, too
pub record Says (setup : RawSetup) (line : List ℕ) (given : ℕ × Option Frame) : Type 0 where
  pub frame : Option Frame
  pub is : line_said setup line ≡ Ok (Stamped given.0 frame)
  pub same : (t : ℕ) → frame_for (ids_of setup t) given.1 ≡ frame_for (ids_of setup t) frame

-- so many lines say so many moments with their frames, in order
abbrev pub Say : RawSetup → List (List ℕ) → List (ℕ × Option Frame) → Type 0
Say setup [] [] = Unit {0}
Say setup [] (g ∷ given) = ⊥
Say setup (line ∷ lines) [] = ⊥
Say setup (line ∷ lines) (g ∷ given) = Says setup line g × Say setup lines given

-- what a unit makes of moments and frames is what `bus` makes of lines that say them
pub record AsBus (setup : RawSetup) (lines : List (List ℕ)) (h : History) : Type 0 where
  pub events : h.events ≡ events_of setup lines
  pub journal : journal_of setup h ≡ run_of setup (events_of setup lines)
  pub text : flat_map (line_of setup (start_after setup 0 lines)) h.sent ≡ text_of setup lines

-- so whatever the lines and the calls are
abbrev pub AsBusLaw : Type 0
AsBusLaw = (setup : RawSetup) (lines : List (List ℕ)) (given : List (ℕ × Option Frame))
    → Say setup lines given
    → AsBus setup lines (history setup (calls_of given))
