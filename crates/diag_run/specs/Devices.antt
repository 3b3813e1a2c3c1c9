-- Whether a fault of reading or of writing is answered just where the device failed. (Of a device, `failed` says that a read, or a
-- write or a flush, of it failed, and `sound` that none did.)
use Rattle.std.specs.Prelude.{◌≡◌, ◌≢◌, ◌⊎◌, ◌<◌, ℕ, ◌+◌, List, [], ◌∷◌, length, Option, Some, None, Result, Ok, Err}
use Rattle.diag_text.specs.Bytes.{Takes}
use Rattle.diag_text.specs.declared.fault.RunFault.{RunFault}
use Rattle.diag_text.specs.declared.fault.RunFault.TheVariants.{Read, Write}
use Rattle.diag_run.specs.Capturing.{most_counted}

-- the fault that is answered, where one is
abbrev pub fault_in : {X : Type 0} → Result X RunFault → Option RunFault
fault_in (Ok x) = None
fault_in (Err fault) = Some fault

-- the fault comes where the device failed, and only there
abbrev pub TellsDevice : {D : Type 0} → (D → Type 0) → (D → Type 0) → RunFault → D → D → Option RunFault → Type 0
TellsDevice failed sound fault old new came = (came ≡ Some fault → failed new) × (came ≢ Some fault → sound old → sound new)

-- of the config
abbrev pub TellsConfig : {R : Type 0} → (R → Type 0) → (R → Type 0) → R → R → Option RunFault → Type 0
TellsConfig failed sound old new came = TellsDevice failed sound (Read 0) old new came

-- of each of the files from number n on
abbrev pub TellsFrom : {R : Type 0} → (R → Type 0) → (R → Type 0) → ℕ → List R → List R → Option RunFault → Type 0
TellsFrom failed sound n [] [] came = Unit {0}
TellsFrom failed sound n (old ∷ olds) (new ∷ news) came =
    TellsDevice failed sound (Read n) old new came × TellsFrom failed sound (n + 1) olds news came
TellsFrom failed sound n olds news came = ⊥

-- of each file
abbrev pub TellsReads : {R : Type 0} → (R → Type 0) → (R → Type 0) → List R → List R → Option RunFault → Type 0
TellsReads failed sound olds news came = TellsFrom failed sound 1 olds news came

-- of a recording; the fault also comes behind so many bytes that the lines of more can't be counted
abbrev pub TellsBusReads : {R : Type 0} → (R → Option (List ℕ)) → (R → Type 0) → (R → Type 0) → R → R → Option RunFault → Type 0
TellsBusReads remaining failed sound old new came =
    (came ≡ Some (Read 1) → failed new ⊎ Takes (remaining old) (remaining new) (λ bytes. most_counted < length bytes))
    × (came ≢ Some (Read 1) → sound old → sound new)

-- of what is written to
abbrev pub TellsWrites : {W : Type 0} → (W → Type 0) → (W → Type 0) → W → W → Option RunFault → Type 0
TellsWrites failed sound old new came = TellsDevice failed sound Write old new came
