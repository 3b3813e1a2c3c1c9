-- What is kept of a recording and of the frames that the server sends: those by which the two are apart.
use Rattle.std.specs.Prelude.{◌≡◌, ◌≢◌, ◌⊎◌, ℕ, ◌+◌, List, [], ◌∷◌, ◌++◌, length, map, if◌then◌else◌, Option, Some, None, Ok, option_map, slice_get}
use Rattle.std.specs.Option.{option_to_list}
use Rattle.diag_can.specs.declared.bus_line.BusLine.{BusLine}
use Rattle.diag_can.specs.declared.frame.Frame.{Frame}
use Rattle.diag_tp.specs.declared.sent.Sent.{Sent}
use Rattle.diag_setup.specs.Setup.{ids_of}
use Rattle.diag_setup.specs.declared.raw.RawSetup.{RawSetup}
use Rattle.diag_bus.specs.Events.{events_of, line_said}
use Rattle.diag_bus.specs.Text.{sent_of}
use Rattle.diag_bus.specs.Verdict.{at_line, bytes_of, difference, earlier, expected, expected_of, first_difference, is_pending, recorded, reply_bytes, verdict}
use Rattle.diag_bus.specs.declared.comparing.Comparison.{Comparison}
use Rattle.diag_bus.specs.declared.comparing.Comparisons.{Comparisons}
use Rattle.diag_bus.specs.declared.verdict.Recorded.{Recorded}
use Rattle.diag_bus.specs.declared.verdict.Difference.{Difference}
use Rattle.diag_bus.specs.declared.verdict.Verdict.{Verdict}
use Rattle.diag_bus.specs.declared.verdict.Verdict.TheVariants.{Agrees}

-- ---- of one tester

-- both have the same frames in front, and behind them these
pub record Part (ahead : List Recorded) (behind : List (List ℕ)) (recorded : List Recorded)
    (expected : List (List ℕ)) : Type 0 where
  pub both : List Recorded
  pub front : recorded ≡ both ++ ahead
  pub back : expected ≡ map bytes_of both ++ behind

abbrev pub OneIsEmpty : List Recorded → List (List ℕ) → Type 0
OneIsEmpty ahead behind = (ahead ≡ []) ⊎ (behind ≡ [])

-- what either has more is kept; a difference that is settled is the first, whatever follows
abbrev pub Apart : Option Difference → List Recorded → List (List ℕ) → List Recorded
    → List (List ℕ) → Type 0
Apart None ahead behind recorded expected =
    Part ahead behind recorded expected × OneIsEmpty ahead behind
Apart (Some d) ahead behind recorded expected = (frames : List Recorded) (others : List (List ℕ))
    → difference (recorded ++ frames) (expected ++ others) ≡ Some d

-- what is kept stands for these frames of the recording, and these of the server
pub record Compares (kept : Comparison) (recorded : List Recorded) (expected : List (List ℕ))
    : Type 0 where
  pub count : kept.count ≡ length recorded
  pub apart : Apart kept.difference kept.ahead.items kept.behind.items recorded expected

-- these frames of the server were taken
abbrev pub Expects : Comparison → Comparison → List (List ℕ) → Type 0
Expects old new frames = (recorded : List Recorded) (expected : List (List ℕ))
    → Compares old recorded expected
    → Compares new recorded (expected ++ frames)

-- these frames of the recording were taken
abbrev pub Records : Comparison → Comparison → List Recorded → Type 0
Records old new frames = (recorded : List Recorded) (expected : List (List ℕ))
    → Compares old recorded expected
    → Compares new (recorded ++ frames) expected

-- this frame of the recording was taken, and is counted already
abbrev pub RecordsCounted : Comparison → Comparison → Recorded → Type 0
RecordsCounted old new frame = (recorded : List Recorded) (expected : List (List ℕ))
    → old.count ≡ length recorded + 1
    → Apart old.difference old.ahead.items old.behind.items recorded expected
    → Compares new (recorded ++ frame ∷ []) expected

-- what a frame of the line of that number is of the recording: nothing where it says response pending
abbrev pub shown : ℕ → List ℕ → List Recorded
shown n bytes = if is_pending bytes then [] else at_line n bytes ∷ []

-- ---- of all testers

-- the earlier of two differences, where there are both
abbrev pub earlier_of : Option (ℕ × Difference) → Option (ℕ × Difference) → Option (ℕ × Difference)
earlier_of None b = b
earlier_of (Some a) None = Some a
earlier_of (Some a) (Some b) = Some (earlier a b)

-- what is kept stands for these lines
pub record ComparesLines (setup : RawSetup) (kept : Comparisons) (lines : List (List ℕ)) : Type 0 where
  pub count : kept.lines ≡ length lines
  pub many : length kept.testers.items ≡ length setup.testers
  pub each : (i : ℕ) (own : Comparison) → slice_get kept.testers.items i ≡ Some own
      → Compares own (recorded setup lines (i + 1)) (expected setup lines (i + 1))

-- the testers are sent these frames by a line behind these
abbrev pub DrawnBy : RawSetup → List (List ℕ) → List ℕ → List (List Sent) → Type 0
DrawnBy setup lines line drawn = (i : ℕ) (frames : List Sent) → slice_get drawn i ≡ Some frames
    → sent_of setup (events_of setup (lines ++ line ∷ [])) (i + 1)
    ≡ sent_of setup (events_of setup lines) (i + 1) ++ frames

-- of each tester one is kept as before, and this holds of the two
pub record Each (P : ℕ → Comparison → Comparison → Type 0) (old new : List Comparison) : Type 0 where
  pub many : length new ≡ length old
  pub each : (i : ℕ) (before after : Comparison) → slice_get old i ≡ Some before → slice_get new i ≡ Some after
      → P i before after

-- the frames of the list at this index were taken
abbrev pub ExpectsAt : List (List Sent) → ℕ → Comparison → Comparison → Type 0
ExpectsAt drawn i before after = (frames : List Sent) → slice_get drawn i ≡ Some frames → Expects before after (expected_of frames)

-- of each tester those of its list were
abbrev pub EachExpects : List (List Sent) → List Comparison → List Comparison → Type 0
EachExpects drawn = Each (ExpectsAt drawn)

-- what a frame of the line of that number is of the unit's frames to a tester
abbrev pub frame_has : RawSetup → ℕ → ℕ → Option Frame → List Recorded
frame_has setup t n frame = option_to_list (option_map (at_line n) (reply_bytes (ids_of setup t).response frame))

-- of each tester it was taken, where it is one of the unit's frames to it
abbrev pub EachRecords : RawSetup → ℕ → Option Frame → List Comparison → List Comparison → Type 0
EachRecords setup n frame = Each (λ i before after. Records before after (frame_has setup (i + 1) n frame))

-- a line that says this was taken, and so were the frames that it draws
abbrev pub TakesLine : RawSetup → Comparisons → Comparisons → BusLine → List (List Sent) → Type 0
TakesLine setup old new said drawn = (lines : List (List ℕ)) (line : List ℕ)
    → line_said setup line ≡ Ok said
    → DrawnBy setup lines line drawn
    → ComparesLines setup old lines
    → ComparesLines setup new (lines ++ line ∷ [])

-- ---- the verdict

-- this is it, on the lines that are stood for
abbrev pub IsVerdict : RawSetup → Comparisons → Verdict → Type 0
IsVerdict setup kept v = (lines : List (List ℕ)) → ComparesLines setup kept lines → v ≡ verdict setup lines

-- the same where no line differs
abbrev pub IsLack : RawSetup → Comparisons → Verdict → Type 0
IsLack setup kept v = (lines : List (List ℕ)) → ComparesLines setup kept lines → first_difference setup lines ≡ None
    → v ≡ verdict setup lines

-- there is such a one, and it isn't that all agree
abbrev pub Disagrees : (Verdict → Type 0) → Type 0
Disagrees Is = (v : Verdict) × (v ≢ Agrees) × Is v
