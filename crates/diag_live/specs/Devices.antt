-- Whether a fault of a live run is answered just where a device failed (diag_run has it of a run over files).
use Rattle.std.specs.Prelude.{◌≡◌, ◌≢◌, ◌⊎◌, List, Option, Some}
use Rattle.diag_text.specs.declared.fault.RunFault.{RunFault}
use Rattle.diag_text.specs.declared.fault.RunFault.TheVariants.{Read, Write}
use Rattle.diag_live.specs.Pace.{GaveUp}
use Rattle.diag_live.specs.Story.{Step}

-- the fault comes where a write or a flush of the output or of the record failed, and only there
abbrev pub TellsBothWrites : {W R : Type 0} → (W → Type 0) → (W → Type 0) → (R → Type 0) → (R → Type 0)
    → W → W → R → R → Option RunFault → Type 0
TellsBothWrites failed sound note_failed note_sound out out' noted noted' came =
    (came ≡ Some Write → failed out' ⊎ note_failed noted')
    × (came ≢ Some Write → (sound out → sound out') × (note_sound noted → note_sound noted'))

-- the fault of the input comes only where the bench can't hear, or was asked so often
abbrev pub TellsHearing : {B : Type 0} → (B → List Step → Type 0) → B → B → Option RunFault → Type 0
TellsHearing story bench bench' came = came ≡ Some (Read 1) → GaveUp story bench bench'
