-- What is kept of a recording between two of its lines, and what a line adds to it.
use Rattle.std.specs.Prelude.{◌≡◌, ◌≤◌, ℕ, suc, ◌+◌, ◌==◌, ◌&&◌, nat_lt, not, codes, Bool, if◌then◌else◌, List, [], ◌∷◌, ◌++◌, length, map, take, slice_get, Option, Some, None, IfSome, Ok}
use Rattle.std.specs.Fmt.{decimal}
use Rattle.std.specs.List.{filter, flat_map, list_any}
use Rattle.diag_can.specs.Log.{waited}
use Rattle.diag_can.specs.declared.bus_line.BusLine.{BusLine}
use Rattle.diag_can.specs.declared.frame.Frame.{Frame}
use Rattle.diag_pdu.specs.declared.step.Step.{Step}
use Rattle.diag_pdu.specs.declared.step.Step.TheVariants as step
use Rattle.diag_setup.specs.Rows.{in_order}
use Rattle.diag_setup.specs.Setup.{ids_of, name_of}
use Rattle.diag_setup.specs.declared.raw.RawSetup.{RawSetup}
use Rattle.diag_ecu.specs.State.{State}
use Rattle.diag_desk.specs.declared.entry.Entry.{Entry}
use Rattle.diag_bus.specs.Events.{clock_of, line_said, reference, time_said}
use Rattle.diag_bus.specs.RequestIds.{IsWithin}
use Rattle.diag_bus.specs.Text.{bus_moment, ecu_after, start_after}
use Rattle.diag_bus.specs.Verdict.{numbers}
use Rattle.diag_bus.specs.declared.clock.Clock.{Clock}
use Rattle.diag_bus.specs.declared.clock.Start.{Start}
use Rattle.diag_exchange.specs.Over.{Over}
use Rattle.diag_exchange.specs.declared.happening.CaptureLine.{CaptureLine}
use Rattle.diag_expect.specs.Expecting.{entered_of}
use Rattle.diag_expect.specs.Entered.{Entered}
use Rattle.diag_judge.specs.Judging.{Judges, counts_of, judged_for}
use Rattle.diag_judge.specs.declared.tester.Counts.{Counts}
use Rattle.diag_judge.specs.declared.tester.Tester.{Tester}
use Rattle.diag_judge.specs.declared.tester.Judged.{Judged}
use Rattle.diag_told.specs.Told.{capture_line_told, told_text}
use Rattle.diag_compare.specs.Compare.{compared_by, exchanges, open_for, over_by}
use Rattle.diag_compare.specs.Expects.{expects}
use Rattle.diag_compare.specs.Hearing.{capture_line_of, entries_by, happenings, in_states, is_of, unit_events, unit_side}
use Rattle.diag_comparing.specs.declared.exchange_lines.ExchangeLines.{ExchangeLines}
use Rattle.diag_comparing.specs.declared.exchange_lines.UnitFrame.{UnitFrame}
use Rattle.diag_comparing.specs.declared.stamps.FirstStamp.{FirstStamp}
use Rattle.diag_comparing.specs.declared.stamps.Stamps.{Stamps}

-- ---- where the bus's time begins

-- as it is known at the line of this number
abbrev pub start_from : Option FirstStamp → ℕ → Option Start
start_from None n = None
start_from (Some first) n = if nat_lt n first.line then None else Some first.start

-- the same once the line of this number was taken, behind which the clock says this
abbrev pub stamped_by : Option FirstStamp → ℕ → Option Start → Option FirstStamp
stamped_by (Some first) line start = Some first
stamped_by None line None = None
stamped_by None line (Some start) = Some (record { line = line; start = start })

-- it is known as the lines tell it
pub record HasStamps (setup : RawSetup) (stamps : Stamps) (lines : List (List ℕ)) : Type 0 where
  pub within : IfSome stamps.first (λ first. first.line ≤ length lines)
  pub start : (n : ℕ) → start_after setup 0 (take n lines) ≡ start_from stamps.first n

-- ---- the line of an exchange

abbrev pub judged_pair : ℕ × Over → Judged
judged_pair pair = judged_for pair.0 pair.1

abbrev pub judged_number : Judged → ℕ
judged_number judged = (capture_line_told judged.over).number

abbrev pub stamped_at : Stamps → Over → ℕ
stamped_at stamps o = bus_moment (start_from stamps.first (capture_line_told o).number) (capture_line_told o).moment

abbrev pub line_at : RawSetup → Stamps → Judged → List ℕ
line_at setup stamps judged = told_text (name_of setup judged.who) (stamped_at stamps judged.over) judged.agrees judged.over

-- with `--differences` those that agree are left out
abbrev pub written_at : RawSetup → Stamps → Bool → Judged → List ℕ
written_at setup stamps differences judged = if differences && judged.agrees then [] else line_at setup stamps judged

-- of a batch, by their lines
abbrev pub lines_at : RawSetup → Stamps → Bool → List Judged → List ℕ
lines_at setup stamps differences batch = flat_map (written_at setup stamps differences) (in_order judged_number batch)

-- ---- a tester

-- the requests of an entry
abbrev pub step_entered : State → ℕ → Step → Option (List ℕ) → List Entered
step_entered s who (step.Request request) reply = entered_of s who request reply ∷ []
step_entered s who (step.Ticks n) reply = []

abbrev pub entry_entered : State × Entry → List Entered
entry_entered e = step_entered e.0 e.1.who e.1.step e.1.reply

-- the requests of a tester among entries behind these lines
abbrev pub entered_by : RawSetup → List (List ℕ) → List Entry → ℕ → List Entered
entered_by setup lines K t = flat_map entry_entered (filter (is_of t) (in_states (ecu_after setup lines) K))

-- what is kept of a tester stands for these lines, and behind them these entries of the line that is under way
pub record IsTester (setup : RawSetup) (lines : List (List ℕ)) (K : List Entry) (t : ℕ) (own : Tester) : Type 0 where
  pub judges : Judges own (unit_events setup t lines) (happenings (expects setup) setup t lines)
  pub link_setup : own.listener.setup ≡ unit_side setup t
  pub entered : own.entered.items ≡ entered_by setup lines K t

-- of the testers, one behind the other
abbrev pub AreTesters : RawSetup → List (List ℕ) → List Entry → List Tester → Type 0
AreTesters setup lines K testers = (i : ℕ) (tester : Tester) → slice_get testers i ≡ Some tester → IsTester setup lines K (i + 1) tester

-- ---- all of it

pub record HasTaken (own : ExchangeLines) (setup : RawSetup) (lines : List (List ℕ)) (K : List Entry) : Type 0 where
  pub count : own.lines ≡ length lines
  pub stamps : HasStamps setup own.stamps lines
  pub many : length own.testers.items ≡ length setup.testers
  pub each : AreTesters setup lines K own.testers.items

-- the bytes of a line's frame, where it is the unit's with this identifier
abbrev pub bytes_with : ℕ → Option Frame → Option (List ℕ)
bytes_with id None = None
bytes_with id (Some frame) = if frame.id == id then Some frame.bytes else None

-- the bytes of a frame of the unit's, where it is to this tester
abbrev pub bytes_to : Option UnitFrame → ℕ → Option (List ℕ)
bytes_to None who = None
bytes_to (Some sent) who = if sent.who == who then Some sent.frame.now.bytes else None

-- to each tester it is what the line's frame is
abbrev pub IsUnitFrame : RawSetup → Option Frame → Option UnitFrame → Type 0
IsUnitFrame setup frame sent = (who : ℕ) → IsWithin (length setup.testers) who
    → bytes_to sent who ≡ bytes_with (ids_of setup who).response frame

-- A line says this, behind these lines: so many milliseconds pass, the journal of the run has these entries more, and the
-- clock is this behind it.
pub record Ends (setup : RawSetup) (lines : List (List ℕ)) (line : List ℕ) (said : BusLine) (span : ℕ) (clock : Clock)
    (K : List Entry) : Type 0 where
  pub says : line_said setup line ≡ Ok said
  pub waits : waited span ≡ time_said (reference setup lines) said
  pub time : clock.time ≡ clock_of setup (lines ++ line ∷ [])
  pub start : clock.start ≡ start_after setup 0 (lines ++ line ∷ [])
  pub entries : entries_by setup lines line ≡ in_states (ecu_after setup lines) K

-- the same of this line of the capture
pub record IsLine (setup : RawSetup) (lines : List (List ℕ)) (line : List ℕ) (said : BusLine) (span : ℕ) (at : CaptureLine)
    (K : List Entry) : Type 0 where
  pub says : line_said setup line ≡ Ok said
  pub waits : waited span ≡ time_said (reference setup lines) said
  pub stands : at ≡ capture_line_of setup lines line
  pub entries : entries_by setup lines line ≡ in_states (ecu_after setup lines) K

-- each tester took the end of a line, and what was over with it was judged
abbrev pub TakesEach : RawSetup → CaptureLine → BusLine → ℕ → List Tester → List Tester → List Judged → List Judged → Type 0
TakesEach setup at said span old new judged judged' = (lines : List (List ℕ)) (line : List ℕ) (K : List Entry)
    → IsLine setup lines line said span at K
    → AreTesters setup lines K old
    → AreTesters setup (lines ++ line ∷ []) [] new
    × (judged' ≡ judged ++ map judged_pair (flat_map (over_by (expects setup) setup lines line) (numbers setup)))

-- the end of a line was taken, and this was written
abbrev pub TakesEnd : RawSetup → ExchangeLines → ExchangeLines → BusLine → ℕ → Clock → List ℕ → Type 0
TakesEnd setup old new said span clock more = (lines : List (List ℕ)) (line : List ℕ) (K : List Entry)
    → Ends setup lines line said span clock K
    → HasTaken old setup lines K
    → HasTaken new setup (lines ++ line ∷ []) []
    × (more ≡ compared_by (expects setup) setup old.differences lines line)

-- ---- the end

-- what is counted of each tester's exchanges
abbrev pub tester_counts : RawSetup → List (List ℕ) → ℕ → Counts
tester_counts setup lines t = counts_of (exchanges (expects setup) setup lines t)

abbrev pub all_counts : RawSetup → List (List ℕ) → List Counts
all_counts setup lines = map (tester_counts setup lines) (numbers setup)

-- the exchanges that weren't over were judged, of each tester
abbrev pub EndsEach : RawSetup → List Tester → List Judged → List Judged → Type 0
EndsEach setup testers judged judged' = (lines : List (List ℕ))
    → AreTesters setup lines [] testers
    → judged' ≡ judged ++ map judged_pair (flat_map (open_for (expects setup) setup lines) (numbers setup))

-- all exchanges were counted, of each tester
abbrev pub CountsEach : RawSetup → List Tester → List Counts → Type 0
CountsEach setup testers counts = (lines : List (List ℕ)) → AreTesters setup lines [] testers → counts ≡ all_counts setup lines

-- ---- counts

-- the line of a tester of this name
abbrev pub count_text : List ℕ → Counts → List ℕ
count_text name counts = name ++ codes " " ++ decimal counts.count ++ codes " exchanges, " ++ decimal counts.differ ++ codes " differ\n"

-- those of the testers from this one on
abbrev pub count_lines : RawSetup → ℕ → List Counts → List ℕ
count_lines setup t [] = []
count_lines setup t (counts ∷ others) = count_text (name_of setup t) counts ++ count_lines setup (suc t) others

abbrev pub some_differ : Counts → Bool
some_differ counts = nat_lt 0 counts.differ

abbrev pub some_compared : Counts → Bool
some_compared counts = counts.compared

abbrev pub nothing_in : List Counts → Bool
nothing_in counts = not (list_any some_differ counts) && not (list_any some_compared counts)

abbrev pub status_in : List Counts → ℕ
status_in counts = if list_any some_differ counts then 8 else if nothing_in counts then 9 else 0
