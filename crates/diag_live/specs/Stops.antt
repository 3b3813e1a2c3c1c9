-- What a live run hears, writes and records; and what it has where it ends by a fault.
use Rattle.std.specs.Prelude.{◌≡◌, ◌⊎◌, ℕ, ◌+◌, List, ◌∷◌, ◌++◌, length, Option, Some, None, Ok, Err, IfSome}
use Rattle.std.specs.Io.KnownBytes.{Appends, Consumes, IsAtEnd, Keeps}
use Rattle.diag_can.specs.BusLine.{bus_lines, ended_lines}
use Rattle.diag_can.specs.declared.fault.LineFault.{LineFault}
use Rattle.diag_can.specs.Event.{Event}
use Rattle.diag_setup.specs.declared.raw.RawSetup.{RawSetup}
use Rattle.diag_setup.specs.Setup.{known_ids}
use Rattle.diag_bus.specs.Events.{bus_events, first_fault, line_said}
use Rattle.diag_bus.specs.Text.{IsRun, run_of, sent_of, text_of}
use Rattle.diag_bus.specs.declared.fault.BusFault.{BusFault}
use Rattle.diag_bus.specs.declared.fault.BusFault.TheVariants as bus
use Rattle.diag_run.specs.Capture.{IsFrontOf}
use Rattle.diag_run.specs.Files.{ConfigEnds, SaysSetup}
use Rattle.diag_text.specs.declared.fault.RunFault.{RunFault}
use Rattle.diag_text.specs.declared.fault.RunFault.TheVariants.{Files, Config, ConfigLong, Log, JournalLine, FileLong, Memory, JournalFull, RecordsDisagree, Read, Write, Differs, Capture, Otherwise}
use Rattle.diag_live.specs.Live.{AreGood, Taken, capture_of, lines_of, record_text}

-- The input was heard to its end, and no line of it is at fault. Its lines, in their order, with ticks between them, are
-- one capture, of which there is one legal run. The record has this capture and nothing else, and what the bus writes of
-- it was written and nothing else: the frames of that run. The ticks keep the pace that is asked.
pub record Lived (Paces : List Taken → Type 0) (setup : RawSetup)
    (input input' out out' noted noted' : Option (List ℕ)) : Type 0 where
  pub bytes : List ℕ
  pub read : Consumes input input' bytes
  pub end : IsAtEnd input'
  pub taken : List Taken
  pub heard : lines_of taken ≡ bus_lines bytes
  pub good : AreGood (known_ids setup) taken
  pub paced : Paces taken
  pub M : List (ℕ × Event)
  pub events : bus_events (record_text (capture_of taken)) setup ≡ Ok M
  pub run : IsRun setup M (run_of setup M) (sent_of setup M)
  pub text : Appends out out' (text_of setup (capture_of taken))
  pub lines : bus_lines (record_text (capture_of taken)) ≡ capture_of taken
  pub recorded : Appends noted noted' (record_text (capture_of taken))

-- ---- where it ends by a fault

-- a front of the lines of the input
abbrev pub AreFront : List (List ℕ) → List (List ℕ) → Type 0
AreFront front lines = (rest : List (List ℕ)) × (lines ≡ front ++ rest)

-- the n-th line of the input is the first at fault: those before it were taken, with ticks between them; what they write
-- was written, and the record has them and nothing else
pub record IsBadLine (setup : RawSetup) (n : ℕ) (fault : LineFault) (lines : List (List ℕ))
    (wrote noted : List ℕ) : Type 0 where
  pub taken : List Taken
  pub bad : List ℕ
  pub others : List (List ℕ)
  pub heard : lines ≡ lines_of taken ++ bad ∷ others
  pub number : n ≡ length (lines_of taken) + 1
  pub good : AreGood (known_ids setup) taken
  pub says : line_said setup bad ≡ Err fault
  pub well : first_fault setup (capture_of taken) ≡ None
  pub text : wrote ≡ text_of setup (capture_of taken)
  pub recorded : noted ≡ record_text (capture_of taken)

-- The capture's first line at fault is one by which a tester's clock would pass its last time: the n-th line of the input,
-- or ticks before it. What stands before it was written, and the record has it, too.
pub record IsLate (setup : RawSetup) (n : ℕ) (lines : List (List ℕ)) (wrote noted : List ℕ) : Type 0 where
  pub before : List Taken
  pub late : Taken
  pub behind : List Taken
  pub heard : AreFront (lines_of (before ++ late ∷ behind)) lines
  pub number : n ≡ length (lines_of before) + 1
  pub good : AreGood (known_ids setup) (before ++ late ∷ behind)
  pub first : first_fault setup (capture_of (before ++ late ∷ behind)) ≡ Some (length before + 1, bus.Late)
  pub text : wrote ≡ text_of setup (capture_of before)
  pub recorded : noted ≡ record_text (capture_of (before ++ late ∷ behind))

-- The first lines of the input were taken, with ticks between them, and none is at fault. A front of what they write was
-- written. The record has them, and may have a front of those that were to be taken next.
pub record IsLiveCutShort (setup : RawSetup) (lines : List (List ℕ)) (wrote noted : List ℕ) : Type 0 where
  pub taken : List Taken
  pub next : List Taken
  pub heard : AreFront (lines_of (taken ++ next)) lines
  pub good : AreGood (known_ids setup) (taken ++ next)
  pub well : first_fault setup (capture_of taken) ≡ None
  pub text : IsFrontOf wrote (text_of setup (capture_of taken))
  pub more : List ℕ
  pub recorded : noted ≡ record_text (capture_of taken) ++ more
  pub front : IsFrontOf more (record_text (capture_of next))

-- a fault of a line of the input
abbrev pub IsFaulty : RawSetup → ℕ → BusFault → List (List ℕ) → List ℕ → List ℕ → Type 0
IsFaulty setup n (bus.Line fault) lines wrote noted = IsBadLine setup n fault lines wrote noted
IsFaulty setup n bus.Late lines wrote noted = IsLate setup n lines wrote noted
IsFaulty setup n bus.Memory lines wrote noted = ⊥

-- the fault is one of an input of these lines, of which this was written, and that recorded
abbrev pub LiveStopsOn : RawSetup → RunFault → List (List ℕ) → List ℕ → List ℕ → Type 0
LiveStopsOn setup (Capture n fault) lines wrote noted = IsFaulty setup n fault lines wrote noted
LiveStopsOn setup Memory lines wrote noted = IsLiveCutShort setup lines wrote noted
LiveStopsOn setup Write lines wrote noted = IsLiveCutShort setup lines wrote noted
LiveStopsOn setup (Otherwise told) lines wrote noted = ⊥
LiveStopsOn setup (Files wanted given) lines wrote noted = ⊥
LiveStopsOn setup (Config fault) lines wrote noted = ⊥
LiveStopsOn setup ConfigLong lines wrote noted = ⊥
LiveStopsOn setup (Log who fault) lines wrote noted = ⊥
LiveStopsOn setup (JournalLine n) lines wrote noted = ⊥
LiveStopsOn setup (FileLong n) lines wrote noted = ⊥
LiveStopsOn setup JournalFull lines wrote noted = ⊥
LiveStopsOn setup (RecordsDisagree who) lines wrote noted = ⊥
LiveStopsOn setup (Read n) lines wrote noted = ⊥
LiveStopsOn setup (Differs n) lines wrote noted = ⊥

-- The whole lines that were heard were taken, with ticks between them, and none is at fault; what they write was
-- written, and the record has them and nothing else.
pub record TookSoFar (setup : RawSetup) (seen wrote noted : List ℕ) : Type 0 where
  pub taken : List Taken
  pub heard : lines_of taken ≡ ended_lines seen
  pub good : AreGood (known_ids setup) taken
  pub well : first_fault setup (capture_of taken) ≡ None
  pub text : wrote ≡ text_of setup (capture_of taken)
  pub recorded : noted ≡ record_text (capture_of taken)

-- The input could not be heard further than this; or the fault is one of what was heard of it, and of the whole of it
-- where what is left is known.
abbrev pub LiveStopsAt : RawSetup → Option (List ℕ) → RunFault → List ℕ → List ℕ → List ℕ → Type 0
LiveStopsAt setup left (Read n) seen wrote noted = (n ≡ 1) × TookSoFar setup seen wrote noted
LiveStopsAt setup left fault seen wrote noted = LiveStopsOn setup fault (bus_lines seen) wrote noted
    × IfSome left (λ rest. LiveStopsOn setup fault (bus_lines (seen ++ rest)) wrote noted)

-- the fault came when so much had been heard, written and recorded
pub record Stopped (setup : RawSetup) (input input' out out' noted noted' : Option (List ℕ))
    (fault : RunFault) : Type 0 where
  pub seen : List ℕ
  pub read : Consumes input input' seen
  pub wrote : List ℕ
  pub sent : Appends out out' wrote
  pub recorded : List ℕ
  pub kept : Appends noted noted' recorded
  pub stops : LiveStopsAt setup input' fault seen wrote recorded

-- ---- behind the config

-- the config was read whole, and says a setup that was lived with
pub record LivedWith (Paces : RawSetup → List Taken → Type 0)
    (config config' input input' out out' noted noted' : Option (List ℕ)) : Type 0 where
  pub setup : RawSetup
  pub says : SaysSetup config config' setup
  pub lived : Lived (Paces setup) setup input input' out out' noted noted'

-- the fault came with the config: nothing was heard, written or recorded
pub record StoppedBefore {B : Type 0} (config config' : Option (List ℕ)) (bench bench' : B)
    (out out' noted noted' : Option (List ℕ)) (fault : RunFault) : Type 0 where
  pub ends : ConfigEnds config config' fault
  pub untouched : bench' ≡ bench
  pub nothing : Keeps out out'
  pub unnoted : Keeps noted noted'

-- the config was read whole, and the fault came with the input
pub record StoppedBehind (config config' input input' out out' noted noted' : Option (List ℕ))
    (fault : RunFault) : Type 0 where
  pub setup : RawSetup
  pub says : SaysSetup config config' setup
  pub stopped : Stopped setup input input' out out' noted noted' fault

abbrev pub StoppedWith : {B : Type 0} → (B → Option (List ℕ)) → (config config' : Option (List ℕ))
    → B → B → (out out' noted noted' : Option (List ℕ)) → RunFault → Type 0
StoppedWith remaining config config' bench bench' out out' noted noted' fault =
    StoppedBefore config config' bench bench' out out' noted noted' fault
    ⊎ StoppedBehind config config' (remaining bench) (remaining bench') out out' noted noted' fault
