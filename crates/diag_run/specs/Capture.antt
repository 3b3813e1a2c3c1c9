-- What a run of a whole bus's recording reads and writes; and what it has read and written where it ends by a fault.
use Rattle.std.specs.Prelude.{◌≡◌, ◌≢◌, ◌⊎◌, ℕ, ◌-◌, List, [], ◌++◌, take, Option, Some, None, Result, Ok, Err, IfSome}
use Rattle.std.specs.Io.KnownBytes.{Appends, Consumes, IsAtEnd, Keeps}
use Rattle.diag_can.specs.BusLine.{bus_lines, ended_lines}
use Rattle.diag_can.specs.Event.{Event}
use Rattle.diag_setup.specs.declared.raw.RawSetup.{RawSetup}
use Rattle.diag_bus.specs.Events.{bus_events, first_fault}
use Rattle.diag_bus.specs.Text.{IsRun, run_of, sent_of}
use Rattle.diag_bus.specs.declared.fault.BusFault.{BusFault}
use Rattle.diag_run.specs.Files.{ConfigEnds, SaysSetup}
use Rattle.diag_run.specs.Wanted.{End, EndsWith, Wanted}
use Rattle.diag_text.specs.declared.fault.RunFault.{RunFault}
use Rattle.diag_text.specs.declared.fault.RunFault.TheVariants.{Files, Config, ConfigLong, Log, JournalLine, FileLong, Memory, JournalFull, RecordsDisagree, Read, Write, Differs, Capture, Otherwise}

-- ---- the text of a capture

-- what its end adds
abbrev pub closing : Result End (List ℕ) → List ℕ
closing (Ok end) = end.more
closing (Err told) = []

abbrev pub capture_text : Wanted → RawSetup → List (List ℕ) → List ℕ
capture_text want setup lines = want.written setup lines ++ closing (want.ends setup lines)

-- The config and the capture were read whole, and no line is at fault. The capture's events are an interleaving M; of it
-- there is one legal run, with these frames to each tester. The text of the capture was written and nothing else, what the
-- lines write and what the end adds: as the frames of that run, line by line, or its journal, or its end, or that the recording
-- has just those frames. The status is that of the end.
pub record Followed (want : Wanted) (config config' capture capture' out out' : Option (List ℕ)) (status : ℕ)
    : Type 0 where
  pub setup : RawSetup
  pub says : SaysSetup config config' setup
  pub bytes : List ℕ
  pub read : Consumes capture capture' bytes
  pub end : IsAtEnd capture'
  pub M : List (ℕ × Event)
  pub events : bus_events bytes setup ≡ Ok M
  pub run : IsRun setup M (run_of setup M) (sent_of setup M)
  pub ended : EndsWith (want.ends setup (bus_lines bytes)) status
  pub text : Appends out out' (capture_text want setup (bus_lines bytes))

-- ---- where it ends by a fault

abbrev pub IsFrontOf : List ℕ → List ℕ → Type 0
IsFrontOf front text = (rest : List ℕ) × (text ≡ front ++ rest)

-- the n-th of these lines is the first at fault, and what those before it write was written
pub record IsFaultyLine (want : Wanted) (setup : RawSetup) (n : ℕ) (fault : BusFault)
    (lines : List (List ℕ)) (wrote : List ℕ) : Type 0 where
  pub first : first_fault setup lines ≡ Some (n, fault)
  pub text : wrote ≡ want.written setup (take (n - 1) lines)

-- The first of these lines were taken, none of which is at fault, and a front of what they write was written; where
-- they are all, it may be a front with what the capture's end adds.
pub record IsCutShort (want : Wanted) (setup : RawSetup) (lines : List (List ℕ))
    (wrote : List ℕ) : Type 0 where
  pub taken : List (List ℕ)
  pub others : List (List ℕ)
  pub are : lines ≡ taken ++ others
  pub well : first_fault setup taken ≡ None
  pub front : IsFrontOf wrote (want.written setup taken)
      ⊎ ((others ≡ []) × IsFrontOf wrote (capture_text want setup taken))

-- Memory was refused. Where the lines end with what is told, one of them was still to be taken then, or none had been.
pub record IsOutOfMemory (want : Wanted) (setup : RawSetup) (lines : List (List ℕ))
    (wrote : List ℕ) : Type 0 where
  pub cut : IsCutShort want setup lines wrote
  pub before : (told : List ℕ) → want.ends setup lines ≡ Err told → (cut.others ≢ []) ⊎ (cut.taken ≡ [])

-- No line is at fault, and what they write was written; in place of what the end adds this is told, as of the first frame of the
-- recording that isn't the one that the server sends.
pub record IsOtherwise (want : Wanted) (setup : RawSetup) (line : List ℕ) (lines : List (List ℕ))
    (wrote : List ℕ) : Type 0 where
  pub well : first_fault setup lines ≡ None
  pub told : want.ends setup lines ≡ Err line
  pub text : wrote ≡ want.written setup lines

-- the fault is one of a capture of these lines, of which this was written
abbrev pub StopsOn : Wanted → RawSetup → RunFault → List (List ℕ) → List ℕ → Type 0
StopsOn want setup (Capture n fault) lines wrote = IsFaultyLine want setup n fault lines wrote
StopsOn want setup Memory lines wrote = IsOutOfMemory want setup lines wrote
StopsOn want setup Write lines wrote = IsCutShort want setup lines wrote
StopsOn want setup (Otherwise told) lines wrote =
    (line : List ℕ) × IfSome told (λ t. t.items ≡ line) × IsOtherwise want setup line lines wrote
StopsOn want setup (Files wanted given) lines wrote = ⊥
StopsOn want setup (Config fault) lines wrote = ⊥
StopsOn want setup ConfigLong lines wrote = ⊥
StopsOn want setup (Log who fault) lines wrote = ⊥
StopsOn want setup (JournalLine n) lines wrote = ⊥
StopsOn want setup (FileLong n) lines wrote = ⊥
StopsOn want setup JournalFull lines wrote = ⊥
StopsOn want setup (RecordsDisagree who) lines wrote = ⊥
StopsOn want setup (Read n) lines wrote = ⊥
StopsOn want setup (Differs n) lines wrote = ⊥

-- the same of a capture of these bytes
abbrev pub StopsIn : Wanted → RawSetup → RunFault → List ℕ → List ℕ → Type 0
StopsIn want setup fault bytes wrote = StopsOn want setup fault (bus_lines bytes) wrote

-- what the whole lines so far write was written, and nothing where no read was done
abbrev pub WroteSoFar : Wanted → RawSetup → List ℕ → List ℕ → Type 0
WroteSoFar want setup seen wrote = ((seen ≡ []) × (wrote ≡ []))
    ⊎ ((first_fault setup (ended_lines seen) ≡ None) × (wrote ≡ want.written setup (ended_lines seen)))

-- The capture could not be read further than this; or the fault is one of what was seen of it, and of the whole of it
-- where what is left is known.
abbrev pub StopsAt : Wanted → RawSetup → Option (List ℕ) → RunFault → List ℕ → List ℕ → Type 0
StopsAt want setup left (Read n) seen wrote = (n ≡ 1) × WroteSoFar want setup seen wrote
StopsAt want setup left fault seen wrote = StopsIn want setup fault seen wrote
    × IfSome left (λ rest. StopsIn want setup fault (seen ++ rest) wrote)

-- the config was read whole, and the fault came with the capture
pub record StopsReading (want : Wanted) (config config' capture capture' out out' : Option (List ℕ))
    (fault : RunFault) : Type 0 where
  pub setup : RawSetup
  pub says : SaysSetup config config' setup
  pub seen : List ℕ
  pub read : Consumes capture capture' seen
  pub wrote : List ℕ
  pub sent : Appends out out' wrote
  pub stops : StopsAt want setup capture' fault seen wrote

-- the fault came with the config: nothing was written, and the capture was not touched
pub record StopsBefore {R : Type 0} (config config' : Option (List ℕ)) (capture capture' : R)
    (out out' : Option (List ℕ)) (fault : RunFault) : Type 0 where
  pub ends : ConfigEnds config config' fault
  pub untouched : capture' ≡ capture
  pub nothing : Keeps out out'

abbrev pub Stops : {R : Type 0} → (R → Option (List ℕ)) → Wanted → R → R → R → R
    → Option (List ℕ) → Option (List ℕ) → RunFault → Type 0
Stops remaining want config config' capture capture' out out' fault =
    StopsBefore (remaining config) (remaining config') capture capture' out out' fault
    ⊎ StopsReading want (remaining config) (remaining config')
    (remaining capture) (remaining capture') out out' fault
