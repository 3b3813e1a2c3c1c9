-- What a recording has of the unit's replies, beside what the server sends; and the verdict on it.
use Rattle.std.specs.Prelude.{◌≡◌, ◌≢◌, ◌≤◌, ◌<◌, ℕ, ◌+◌, ◌==◌, ◌&&◌, codes, nat_lt, not, bytes_eq, Bool, if◌then◌else◌, List, [], ◌∷◌, ◌++◌, length, map, Option, Some, None, Result, Ok, Err, option_map, slice_get, slice_index}
use Rattle.std.specs.Fmt.{decimal}
use Rattle.std.specs.List.{filter, filter_map, flat_map, reduce}
use Rattle.std.specs.Option.{option_to_list}
use Rattle.hex.specs.Hex.{encode_upper}
use Rattle.diag_can.specs.declared.bus_line.BusLine.{BusLine}
use Rattle.diag_can.specs.declared.fault.LineFault.{LineFault}
use Rattle.diag_can.specs.declared.frame.Frame.{Frame}
use Rattle.diag_tp.specs.declared.sent.Sent.{Sent}
use Rattle.diag_pdu.specs.Cut.{counted_from}
use Rattle.diag_setup.specs.declared.raw.RawSetup.{RawSetup}
use Rattle.diag_setup.specs.Setup.{ids_of, name_of}
use Rattle.diag_bus.specs.Events.{events_of, frame_said, line_said}
use Rattle.diag_bus.specs.Text.{sent_of}
use Rattle.diag_bus.specs.declared.verdict.Recorded.{Recorded}
use Rattle.diag_bus.specs.declared.verdict.Difference.{Difference}
use Rattle.diag_bus.specs.declared.verdict.Verdict.{Verdict}
use Rattle.diag_bus.specs.declared.verdict.Verdict.TheVariants.{Agrees, Differs, Lacks}

-- ---- what was recorded

-- a SingleFrame that says response pending (ISO 14229-1:2013, A.1), filled or not. In a frame of more than 8 bytes 0x03 isn't
-- the length of a SingleFrame (ISO 15765-2:2016, 9.6.2)
abbrev pub is_pending : List ℕ → Bool
is_pending bytes =
    nat_lt (length bytes) 9 && slice_index bytes 0 == 0x03 && slice_index bytes 1 == 0x7F && slice_index bytes 3 == 0x78

-- the bytes of a frame with this identifier, unless it says response pending
abbrev pub reply_bytes : ℕ → Option Frame → Option (List ℕ)
reply_bytes id None = None
reply_bytes id (Some frame) =
    if frame.id == id && not (is_pending frame.bytes) then Some frame.bytes else None

abbrev pub reply_said : ℕ → Result BusLine LineFault → Option (List ℕ)
reply_said id (Ok said) = reply_bytes id (frame_said said)
reply_said id (Err fault) = None

-- a frame of the line of that number
abbrev pub at_line : ℕ → List ℕ → Recorded
at_line n bytes = record { line = n; bytes = bytes }

-- what a line has of the unit's frames to a tester
abbrev pub line_has : RawSetup → ℕ → ℕ → List ℕ → List Recorded
line_has setup t n line =
    option_to_list (option_map (at_line n) (reply_said (ids_of setup t).response (line_said setup line)))

-- the first of these lines has the number n
abbrev pub recorded_from : RawSetup → ℕ → ℕ → List (List ℕ) → List Recorded
recorded_from setup t n [] = []
recorded_from setup t n (line ∷ lines) =
    line_has setup t n line ++ recorded_from setup t (n + 1) lines

-- the frames of the lines that a tester was sent by the unit, in order
abbrev pub recorded : RawSetup → List (List ℕ) → ℕ → List Recorded
recorded setup lines t = recorded_from setup t 1 lines

abbrev pub bytes_of : Recorded → List ℕ
bytes_of frame = frame.bytes

-- ---- what was to be recorded

abbrev pub sent_bytes : Sent → List ℕ
sent_bytes sent = sent.frame.bytes

-- what is to be recorded of frames that the server sends: those that say response pending are left out
abbrev pub expected_of : List Sent → List (List ℕ)
expected_of frames = filter (λ bytes. not (is_pending bytes)) (map sent_bytes frames)

-- of those that the server sends to a tester up to the end of the lines
abbrev pub expected : RawSetup → List (List ℕ) → ℕ → List (List ℕ)
expected setup lines t = expected_of (sent_of setup (events_of setup lines) t)

-- ---- the verdict

-- the first frame that isn't the one expected at its index
abbrev pub difference : List Recorded → List (List ℕ) → Option Difference
difference [] expected = None
difference (frame ∷ frames) [] =
    Some (record { line = frame.line; sent = frame.bytes; expected = None })
difference (frame ∷ frames) (bytes ∷ expected) =
    if bytes_eq frame.bytes bytes then difference frames expected
    else Some (record { line = frame.line; sent = frame.bytes; expected = Some bytes })

abbrev pub difference_of : RawSetup → List (List ℕ) → ℕ → Option (ℕ × Difference)
difference_of setup lines t =
    option_map (λ d. (t, d)) (difference (recorded setup lines t) (expected setup lines t))

-- the one of the lesser line
abbrev pub earlier : ℕ × Difference → ℕ × Difference → ℕ × Difference
earlier a b = if nat_lt b.1.line a.1.line then b else a

-- where fewer frames were recorded than expected
abbrev pub lack : ℕ → ℕ → List (List ℕ) → Option Verdict
lack t count expected = option_map (Lacks t count) (slice_get expected count)

abbrev pub lack_of : RawSetup → List (List ℕ) → ℕ → Option Verdict
lack_of setup lines t = lack t (length (recorded setup lines t)) (expected setup lines t)

abbrev pub verdict_by : Option (ℕ × Difference) → List Verdict → Verdict
verdict_by (Some first) lacks = Differs first.0 first.1
verdict_by None [] = Agrees
verdict_by None (lack ∷ lacks) = lack

-- the testers by their numbers, from 1
abbrev pub numbers : RawSetup → List ℕ
numbers setup = counted_from 1 (length setup.testers)

-- the first difference in the order of the lines, and its tester
abbrev pub first_difference : RawSetup → List (List ℕ) → Option (ℕ × Difference)
first_difference setup lines = reduce earlier (filter_map (difference_of setup lines) (numbers setup))

-- the first difference; where there is none, the first tester of whom frames are missing
abbrev pub verdict : RawSetup → List (List ℕ) → Verdict
verdict setup lines =
    verdict_by (first_difference setup lines) (filter_map (lack_of setup lines) (numbers setup))

-- ---- what it means

abbrev pub IsNumber : RawSetup → ℕ → Type 0
IsNumber setup t = (1 ≤ t) × (t ≤ length setup.testers)

-- the recording has of a tester just the frames that are expected
abbrev pub Agree : RawSetup → List (List ℕ) → ℕ → Type 0
Agree setup lines t = map bytes_of (recorded setup lines t) ≡ expected setup lines t

-- the recording has this frame of a tester, where another is expected, or none
pub record IsDifferent (setup : RawSetup) (lines : List (List ℕ)) (t : ℕ) (frame : Recorded)
    (wanted : Option (List ℕ)) : Type 0 where
  pub tester : IsNumber setup t
  pub index : ℕ
  pub has : slice_get (recorded setup lines t) index ≡ Some frame
  pub wants : slice_get (expected setup lines t) index ≡ wanted
  pub other : wanted ≢ Some frame.bytes

-- no earlier line has a frame that differs
pub record IsFirstDifference (setup : RawSetup) (lines : List (List ℕ)) (t : ℕ) (d : Difference)
    : Type 0 where
  pub differs : IsDifferent setup lines t (at_line d.line d.sent) d.expected
  pub first : (u : ℕ) (frame : Recorded) (wanted : Option (List ℕ))
      → IsDifferent setup lines u frame wanted
      → d.line ≤ frame.line

-- no line has a frame that differs, and of the testers before this one none is missing
pub record IsFirstLack (setup : RawSetup) (lines : List (List ℕ)) (t count : ℕ) (next : List ℕ)
    : Type 0 where
  pub tester : IsNumber setup t
  pub has : count ≡ length (recorded setup lines t)
  pub wants : slice_get (expected setup lines t) count ≡ Some next
  pub same : (u : ℕ) (frame : Recorded) (wanted : Option (List ℕ))
      → ¬ IsDifferent setup lines u frame wanted
  pub first : (u : ℕ) → IsNumber setup u → u < t → Agree setup lines u

abbrev pub Means : RawSetup → List (List ℕ) → Verdict → Type 0
Means setup lines Agrees = (t : ℕ) → IsNumber setup t → Agree setup lines t
Means setup lines (Differs t d) = IsFirstDifference setup lines t d
Means setup lines (Lacks t count next) = IsFirstLack setup lines t count next

-- the verdict means what it says, and where the frames of all testers agree it says so
abbrev pub VerdictLaw : Type 0
VerdictLaw = (setup : RawSetup) (lines : List (List ℕ)) → Means setup lines (verdict setup lines)
    × (((t : ℕ) → IsNumber setup t → Agree setup lines t) → verdict setup lines ≡ Agrees)

-- ---- how it is told

abbrev pub agreed_line : RawSetup → List (List ℕ) → ℕ → List ℕ
agreed_line setup lines t = name_of setup t ++ codes " "
    ++ decimal (length (recorded setup lines t)) ++ codes " frames agree\n"

-- of each tester how many frames agree
abbrev pub agreement_text : RawSetup → List (List ℕ) → List ℕ
agreement_text setup lines = flat_map (agreed_line setup lines) (numbers setup)

abbrev pub expected_text : Option (List ℕ) → List ℕ
expected_text None = codes "nothing"
expected_text (Some bytes) = encode_upper bytes

-- the line of a difference, where there is one
abbrev pub verdict_text : RawSetup → Verdict → List ℕ
verdict_text setup Agrees = []
verdict_text setup (Differs t d) = codes "line " ++ decimal d.line ++ codes ": " ++ name_of setup t
    ++ codes " sent " ++ encode_upper d.sent ++ codes ", expected " ++ expected_text d.expected
verdict_text setup (Lacks t count next) = name_of setup t ++ codes " sent " ++ decimal count
    ++ codes " frames, expected " ++ encode_upper next ++ codes " next"
