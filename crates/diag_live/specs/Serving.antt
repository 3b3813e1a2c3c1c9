-- What is kept of a live run between two calls of its bench, and how a call goes.
use Rattle.std.specs.Prelude.{◌≡◌, ◌⊎◌, ◌<◌, ◌≤◌, ◌^◌, ℕ, ◌+◌, ◌-◌, min, max, Bool, true, false, List, [], ◌++◌, length, Option, Some}
use Rattle.std.specs.Io.KnownBytes.{Appends, Consumes, IsAtEnd, Keeps}
use Rattle.diag_can.specs.BusLine.{begun_line, bus_lines, ended_lines}
use Rattle.diag_setup.specs.Setup.{known_ids}
use Rattle.diag_setup.specs.declared.raw.RawSetup.{RawSetup}
use Rattle.diag_bus.specs.declared.replies.Replies.{Replies}
use Rattle.diag_bus.specs.declared.sink.Sink.{Ghosts}
use Rattle.diag_run.specs.Wanted.{any_lines, replies_wanted}
use Rattle.diag_run.specs.Capture.{IsFrontOf}
use Rattle.diag_text.specs.Bytes.{Sends, Takes}
use Rattle.diag_run.specs.Capturing.{GoesOn, HaltsIn, Stands, fault_of}
use Rattle.diag_run.specs.declared.capture.Capture.{Capture}
use Rattle.diag_run.specs.declared.capture.CaptureFault.{CaptureFault}
use Rattle.diag_run.specs.declared.capture.CaptureFault.TheVariants as capture
use Rattle.diag_text.specs.declared.fault.RunFault.{RunFault}
use Rattle.diag_text.specs.declared.fault.RunFault.TheVariants.{Capture as CaptureLine, Read}
use Rattle.diag_live.specs.Hearing.{HasHeard}
use Rattle.diag_live.specs.Live.{AreGood, Taken, capture_of, lines_of, record_text}
use Rattle.diag_live.specs.Pace.{Paced, heard_bytes, last_feed, taken_at}
use Rattle.diag_live.specs.Story.{Step, Turn, steps_of}
use Rattle.diag_live.specs.declared.bench.Heard.TheVariants as heard
use Rattle.diag_world.specs.Block.{some_in_block}
use Rattle.diag_world.specs.Server.{quiet_of}
use Rattle.diag_live.specs.Stops.{LiveStopsOn}
use Rattle.diag_live.specs.declared.serving.Serving.{Serving}

-- These bytes were heard, these written, and those recorded: the lines that were ended were taken, with ticks between
-- them, the record has them, and the capture that they are was followed to its end, with nothing left to be written.
pub record ServingStands (serving : Serving) (seen wrote noted : List ℕ) : Type 0 where
  pub taken : List Taken
  pub heard : lines_of taken ≡ ended_lines seen
  pub good : AreGood (known_ids serving.capture.bus.setup) taken
  pub follows : HasHeard serving.hearing seen
  pub recorded : noted ≡ record_text (capture_of taken)
  pub lines : ended_lines noted ≡ capture_of taken
  pub closed : begun_line noted ≡ []
  pub capture : Stands any_lines replies_wanted serving.capture noted wrote
  pub sent : serving.capture.text.items ≡ []

-- the time up to this moment was passed, these bytes were heard further, these written, and those recorded
pub record ServingGoesOn (old new : Serving) (now : ℕ) (bytes sent noted : List ℕ) : Type 0 where
  pub setup : new.capture.bus.setup ≡ old.capture.bus.setup
  pub told : new.told ≡ max old.told now
  pub stands : (seen wrote before : List ℕ) (s : ServingStands old seen wrote before)
      → (n : ServingStands new (seen ++ bytes) (wrote ++ sent) (before ++ noted))
      × (n.taken ≡ s.taken ++ taken_at old.told now seen bytes)

-- the fault came with these bytes, whatever follows them, behind which these were written, and those recorded
abbrev pub ServingHalts : Serving → RunFault → List ℕ → List ℕ → List ℕ → Type 0
ServingHalts old fault bytes sent noted = (seen wrote before : List ℕ) → ServingStands old seen wrote before
    → (rest : List ℕ) → LiveStopsOn old.capture.bus.setup fault (bus_lines ((seen ++ bytes) ++ rest))
    (wrote ++ sent) (before ++ noted)

-- the capture's text was recorded and taken
pub record Delivered {g : Ghosts Replies} (old new : Capture Replies g) (text sent noted : List ℕ) : Type 0 where
  pub whole : noted ≡ text
  pub on : GoesOn any_lines replies_wanted old new text sent
  pub none : new.text.items ≡ []

-- it was recorded, and then the fault came in taking it
pub record HaltsTaking {g : Ghosts Replies} (old : Capture Replies g) (text sent noted : List ℕ) (fault : CaptureFault) : Type 0 where
  pub whole : noted ≡ text
  pub countable : old.lines + length text + 1 < 2 ^ 64
  pub halts : HaltsIn any_lines replies_wanted old fault text sent

-- It was not recorded whole, and nothing of it was taken: the recording failed, or its lines can't be counted behind so many.
pub record HaltsRecording (lines : ℕ) (text sent noted : List ℕ) (fault : CaptureFault) : Type 0 where
  pub of : (fault ≡ capture.Write) ⊎ ((fault ≡ capture.Memory) × (2 ^ 64 ≤ lines + length text + 1))
  pub none : sent ≡ []
  pub front : IsFrontOf noted text

-- a line of the capture by its number in the input, of which so many lines had been heard when so many stood in the
-- capture before those that are heard now; with ticks it is the next line
abbrev pub input_number : ℕ → ℕ → ℕ → ℕ
input_number heard first n = min (heard + max (n - first) 1) (2 ^ 64 - 1)

-- the fault of the capture as one of the input
abbrev pub numbered : ℕ → ℕ → CaptureFault → RunFault
numbered heard first (capture.Line n fault) = CaptureLine (input_number heard first n) fault
numbered heard first fault = fault_of fault

-- the fault came in delivering the capture's text
pub record Undelivered {g : Ghosts Replies} (old : Capture Replies g) (heard first : ℕ) (text sent noted : List ℕ) (fault : RunFault)
    : Type 0 where
  pub came : CaptureFault
  pub told : fault ≡ numbered heard first came
  pub how : HaltsTaking old text sent noted came ⊎ HaltsRecording old.lines text sent noted came

-- ---- a turn: what was heard

-- the bench did this turn, asked until something falls due
pub record AsksUntilDue (Does : List Step → Type 0) (old : Serving) (turn : Turn) : Type 0 where
  pub did : Does (steps_of turn)
  pub until : turn.until ≡ min (old.told + quiet_of old.capture.bus.server.ports) (2 ^ 64 - 1)
  pub block : turn.in_block ≡ some_in_block old.capture.bus.server.ports

-- so much was heard, written and recorded, and the run goes on; or the input has ended, and its last line was taken
abbrev pub Turned : (List Step → Type 0) → Serving → Serving → (input input' out out' noted noted' : Option (List ℕ)) → Bool
    → Type 0
Turned Does old new input input' out out' noted noted' true = (turn : Turn) × AsksUntilDue Does old turn
    × Takes input input' (λ bytes. Sends out out' (λ sent. Sends noted noted' (λ recorded.
    (heard_bytes turn.heard ≡ Some bytes) × ServingGoesOn old new turn.now bytes sent recorded)))
Turned Does old new input input' out out' noted noted' false = (turn : Turn) × AsksUntilDue Does old turn
    × (turn.heard ≡ heard.End) × Keeps input input' × IsAtEnd input' × Sends out out' (λ sent. Sends noted noted' (λ recorded.
    ServingGoesOn old new turn.now (last_feed old.hearing.kept.items) sent recorded))

-- the fault came with these bytes; or at the end of the input
abbrev pub HaltsWith : Serving → (input input' out out' noted noted' : Option (List ℕ)) → RunFault → Type 0
HaltsWith old input input' out out' noted noted' fault = Takes input input' (λ bytes.
    Sends out out' (λ sent. Sends noted noted' (λ recorded. ServingHalts old fault bytes sent recorded)))
    ⊎ (Keeps input input' × IsAtEnd input' × Sends out out' (λ sent. Sends noted noted' (λ recorded.
    ServingHalts old fault (last_feed old.hearing.kept.items) sent recorded)))

-- the input can't be heard further: nothing was written or recorded
abbrev pub CannotHear : (List Step → Type 0) → (input input' out out' noted noted' : Option (List ℕ)) → RunFault → Type 0
CannotHear Does input input' out out' noted noted' fault = (fault ≡ Read 1)
    × Keeps input input' × Keeps out out' × Keeps noted noted'
    × ((turn : Turn) × (turn.heard ≡ heard.Fault) × Does (steps_of turn))

-- so much was heard, written and recorded since the run began, by what the bench did
pub record SoFar (Does : List Step → Type 0) (setup : RawSetup) (serving : Serving)
    (input input' out out' noted noted' : Option (List ℕ)) : Type 0 where
  pub set : serving.capture.bus.setup ≡ setup
  pub seen : List ℕ
  pub read : Consumes input input' seen
  pub wrote : List ℕ
  pub sent : Appends out out' wrote
  pub recorded : List ℕ
  pub kept : Appends noted noted' recorded
  pub stands : ServingStands serving seen wrote recorded
  pub steps : List Step
  pub did : Does steps
  pub paced : Paced setup steps serving.told seen stands.taken
