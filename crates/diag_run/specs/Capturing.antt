-- What is kept of a capture between two reads, and how a step of it goes.
use Rattle.std.specs.Prelude.{◌≡◌, ◌≢◌, ◌⊎◌, ◌<◌, ◌+◌, ◌^◌, ◌-◌, ℕ, List, ◌++◌, [], length, None, Option, Result, Err, IfSome}
use Rattle.std.specs.Io.KnownBytes.{Appends, Consumes, IsAtEnd}
use Rattle.diag_can.specs.BusLine.{begun_line, bus_lines, ended_lines}
use Rattle.diag_bus.specs.Bus.{TookLines}
use Rattle.diag_bus.specs.Events.{first_fault, line_fault}
use Rattle.diag_bus.specs.declared.fault.BusFault.{BusFault}
use Rattle.diag_bus.specs.declared.fault.BusFault.TheVariants as bus
use Rattle.diag_can.specs.declared.fault.LineFault.TheVariants.{BadLine}
use Rattle.diag_bus.specs.declared.sink.Sink.{Ghosts}
use Rattle.diag_setup.specs.declared.raw.RawSetup.{RawSetup}
use Rattle.diag_run.specs.Faults.{fault_at}
use Rattle.diag_run.specs.Capture.{IsCutShort, StopsAt, StopsIn, StopsOn, capture_text}
use Rattle.diag_run.specs.Wanted.{EndsWith, Wanted}
use Rattle.diag_desk.specs.declared.entry.Entry.{Entry}
use Rattle.diag_run.specs.declared.capture.Capture.{Capture}
use Rattle.diag_run.specs.declared.capture.CaptureFault.{CaptureFault}
use Rattle.diag_run.specs.declared.capture.CaptureFault.TheVariants.{Line, Memory, Read, Write, Otherwise}
use Rattle.diag_text.specs.declared.fault.RunFault.{RunFault}
use Rattle.diag_text.specs.declared.fault.RunFault.TheVariants as run

-- the fault as one of a run
abbrev pub fault_of : CaptureFault → RunFault
fault_of (Line n fault) = run.Capture n fault
fault_of Memory = run.Memory
fault_of Read = run.Read 1
fault_of Write = run.Write
fault_of (Otherwise told) = run.Otherwise told

-- these bytes were read, and these were written: the bus took the lines that were ended, the one that is begun is kept,
-- and so is what is still to be written
pub record Stands {S : Type 0} {g : Ghosts S} (took : S → RawSetup → List (List ℕ) → List Entry → Type 0) (want_of : S → Wanted)
    (capture : Capture S g) (seen wrote : List ℕ) : Type 0 where
  pub took_lines : TookLines took capture.bus (ended_lines seen)
  pub kept : capture.kept.items ≡ begun_line seen
  pub count : capture.lines ≡ length (ended_lines seen)
  pub due : wrote ++ capture.text.items
      ≡ (want_of capture.bus.sink).written capture.bus.setup (ended_lines seen)

-- these bytes were read further, and these were written further
pub record GoesOn {S : Type 0} {g : Ghosts S} (took : S → RawSetup → List (List ℕ) → List Entry → Type 0) (want_of : S → Wanted)
    (old new : Capture S g) (bytes sent : List ℕ) : Type 0 where
  pub setup : new.bus.setup ≡ old.bus.setup
  pub want : want_of new.bus.sink ≡ want_of old.bus.sink
  pub stands : (seen wrote : List ℕ) → Stands took want_of old seen wrote
      → Stands took want_of new (seen ++ bytes) (wrote ++ sent)

-- The fault is one of these bytes, whatever followed them; and so would a failed writing have been.
pub record Halts (want : Wanted) (setup : RawSetup) (fault : CaptureFault) (seen wrote : List ℕ)
    : Type 0 where
  pub stops : (rest : List ℕ) → StopsIn want setup (fault_of fault) (seen ++ rest) wrote
  pub cut : (rest : List ℕ) → IsCutShort want setup (bus_lines (seen ++ rest)) wrote

-- the fault came with these bytes, behind which these were written
abbrev pub HaltsIn : {S : Type 0} → {g : Ghosts S} → (S → RawSetup → List (List ℕ) → List Entry → Type 0) → (S → Wanted)
    → Capture S g → CaptureFault → List ℕ → List ℕ → Type 0
HaltsIn took want_of capture fault bytes sent = (seen wrote : List ℕ) → Stands took want_of capture seen wrote
    → Halts (want_of capture.bus.sink) capture.bus.setup fault (seen ++ bytes) (wrote ++ sent)

-- all that was read is whole lines that were taken, none of which is at fault, and what they and the end write was written; the
-- status is that of the end, and the bus stands for the lines
abbrev pub Closes : {S : Type 0} → {g : Ghosts S} → (S → RawSetup → List (List ℕ) → List Entry → Type 0) → (S → Wanted)
    → Capture S g → Capture S g → ℕ → List ℕ → Type 0
Closes took want_of old new status sent = (seen wrote : List ℕ) → Stands took want_of old seen wrote
    → (first_fault old.bus.setup (bus_lines seen) ≡ None)
    × EndsWith ((want_of old.bus.sink).ends old.bus.setup (bus_lines seen)) status
    × (wrote ++ sent ≡ capture_text (want_of old.bus.sink) old.bus.setup (bus_lines seen))
    × (new.bus.setup ≡ old.bus.setup)
    × TookLines took new.bus (bus_lines seen)

-- the same of the lines that were ended, where no line is begun
abbrev pub ClosesEnded : {S : Type 0} → {g : Ghosts S} → (S → RawSetup → List (List ℕ) → List Entry → Type 0) → (S → Wanted)
    → Capture S g → Capture S g → ℕ → List ℕ → Type 0
ClosesEnded took want_of old new status sent = (seen wrote : List ℕ) → Stands took want_of old seen wrote
    → EndsWith ((want_of old.bus.sink).ends old.bus.setup (ended_lines seen)) status
    × (wrote ++ sent ≡ capture_text (want_of old.bus.sink) old.bus.setup (ended_lines seen))
    × (new.bus.setup ≡ old.bus.setup)
    × TookLines took new.bus (ended_lines seen)

-- why not all of it was written
abbrev pub HaltsEnded : {S : Type 0} → {g : Ghosts S} → (S → RawSetup → List (List ℕ) → List Entry → Type 0) → (S → Wanted)
    → Capture S g → CaptureFault → List ℕ → Type 0
HaltsEnded took want_of capture fault sent = (seen wrote : List ℕ) → Stands took want_of capture seen wrote
    → StopsOn (want_of capture.bus.sink) capture.bus.setup (fault_of fault) (ended_lines seen) (wrote ++ sent)

-- the fault came at the end of the capture
abbrev pub HaltsAtEnd : {S : Type 0} → {g : Ghosts S} → (S → RawSetup → List (List ℕ) → List Entry → Type 0) → (S → Wanted)
    → Capture S g → CaptureFault → List ℕ → Type 0
HaltsAtEnd took want_of capture fault sent = (seen wrote : List ℕ) → Stands took want_of capture seen wrote
    → StopsIn (want_of capture.bus.sink) capture.bus.setup (fault_of fault) seen (wrote ++ sent)

-- the capture could not be read further, or the fault is one of its bytes, whatever follows them
abbrev pub StopsAfter : Wanted → RawSetup → CaptureFault → List ℕ → List ℕ → Type 0
StopsAfter want setup Read seen wrote = (first_fault setup (ended_lines seen) ≡ None)
    × (wrote ≡ want.written setup (ended_lines seen))
StopsAfter want setup fault seen wrote =
    (rest : List ℕ) → StopsIn want setup (fault_of fault) (seen ++ rest) wrote

-- A line that is seen to be at fault isn't taken, and that is told, whatever memory there is: one that came as one piece,
-- or is longer than a line may be.
abbrev pub SeesFault : {S : Type 0} → {g : Ghosts S} → (S → RawSetup → List (List ℕ) → List Entry → Type 0)
    → Capture S g → List ℕ → (BusFault → Type 0) → Type 0
SeesFault took capture bytes Told = (lines : List (List ℕ)) → TookLines took capture.bus lines
    → (capture.kept.items ≡ [] → IfSome (line_fault capture.bus.setup lines bytes) Told)
    × (4096 < length capture.kept.items + length bytes → Told (bus.Line BadLine))

-- the fault of the line of this number is answered, unless the writing before it failed
abbrev pub IsTold : {X : Type 0} → ℕ → Result X CaptureFault → BusFault → Type 0
IsTold number result fault = (result ≡ Err (fault_at number fault)) ⊎ (result ≡ Err Write)

-- The fault of a writing comes where a write or a flush failed, and only there; and a failed read isn't told, for nothing is read.
abbrev pub IsWritings : {W X : Type 0} → (W → Type 0) → (W → Type 0) → W → W → Result X CaptureFault → Type 0
IsWritings failed sound old new result = (result ≡ Err Write → failed new)
    × (result ≢ Err Write → sound old → sound new)
    × (result ≢ Err Read)

-- so many bytes may have more lines than are counted
abbrev pub most_counted : ℕ
most_counted = 2 ^ 64 - 65538

-- the fault came when these bytes more had been read, and these more written
abbrev pub StopsWithin : {S : Type 0} → {g : Ghosts S} → (S → RawSetup → List (List ℕ) → List Entry → Type 0) → (S → Wanted)
    → Capture S g → CaptureFault → List ℕ → List ℕ → Type 0
StopsWithin took want_of capture fault bytes sent = (seen wrote : List ℕ) → Stands took want_of capture seen wrote
    → StopsAfter (want_of capture.bus.sink) capture.bus.setup fault (seen ++ bytes) (wrote ++ sent)

-- the capture was read whole, and its text written; the status is that of its end
pub record FollowedFrom (want : Wanted) (setup : RawSetup) (capture capture' out out' : Option (List ℕ)) (status : ℕ)
    : Type 0 where
  pub bytes : List ℕ
  pub read : Consumes capture capture' bytes
  pub end : IsAtEnd capture'
  pub well : first_fault setup (bus_lines bytes) ≡ None
  pub ended : EndsWith (want.ends setup (bus_lines bytes)) status
  pub text : Appends out out' (capture_text want setup (bus_lines bytes))

-- the fault came with the capture
pub record StopsFrom (want : Wanted) (setup : RawSetup) (capture capture' out out' : Option (List ℕ))
    (fault : CaptureFault) : Type 0 where
  pub seen : List ℕ
  pub read : Consumes capture capture' seen
  pub wrote : List ℕ
  pub sent : Appends out out' wrote
  pub stops : StopsAt want setup capture' (fault_of fault) seen wrote
