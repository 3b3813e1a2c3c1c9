-- What the files of a run say: the first fault in the order in which a run meets them, or what is read.
use Rattle.std.specs.Prelude.{◌≡◌, ◌≤◌, ◌<◌, ℕ, ◌+◌, ◌==◌, nat_le, nat_lt, Bool, false, IfErr, if◌then◌else◌, List, [], ◌∷◌, ◌++◌, length, map, Option, Some, Result, Ok, Err}
use Rattle.diag_can.specs.declared.fault.LogFault.{LogFault}
use Rattle.diag_setup.specs.declared.raw.RawSetup.{RawSetup}
use Rattle.diag_config.specs.Key.{Fault, syntax, missing, bad_value, refused, ◌>>=◌}
use Rattle.diag_config.specs.Setup.{setup_of}
use Rattle.diag_config.specs.declared.fault.ConfigFault.{ConfigFault}
use Rattle.diag_config.specs.declared.fault.ConfigFault.TheVariants as config
use Rattle.diag_text.specs.Bytes.{ReadWhole, Takes}
use Rattle.diag_text.specs.declared.fault.RunFault.{RunFault}
use Rattle.diag_text.specs.declared.fault.RunFault.TheVariants.{Files, Config, ConfigLong, Log, JournalLine, FileLong, Memory, JournalFull, RecordsDisagree, Read, Write, Differs, Capture, Otherwise}

-- what was read is refused; file 0 is the config, and a tester is its number from 1
pub data Refusal : Type 0 where
  config_long : Refusal
  bad_config : Fault → Refusal
  wrong_count : (wanted given : ℕ) → Refusal
  file_long : ℕ → Refusal
  bad_log : ℕ → LogFault → Refusal

-- ---- a fault that is answered, beside what was read

-- the refusal is met before file n is read
abbrev pub is_before : ℕ → Refusal → Bool
is_before n config_long = nat_lt 0 n
is_before n (bad_config fault) = nat_lt 0 n
is_before n (wrong_count wanted given) = nat_lt 0 n
is_before n (file_long m) = nat_lt m n
is_before n (bad_log who fault) = false

abbrev pub ConfigFails : {Y : Type 0} → ConfigFault → Result Y Refusal → Type 0
ConfigFails config.Syntax said = said ≡ Err (bad_config syntax)
ConfigFails (config.Missing key) said = said ≡ Err (bad_config (missing key.now))
ConfigFails (config.BadValue key) said = said ≡ Err (bad_config (bad_value key.now))
ConfigFails (config.Setup fault) said = said ≡ Err (bad_config (refused fault))
ConfigFails config.Memory said = ⊥

-- The fault is the refusal of what was read. Want of memory stands apart, a failed read is answered where nothing is
-- refused before that file, and the others are not met in reading.
abbrev pub Fails : {Y : Type 0} → RunFault → Result Y Refusal → Type 0
Fails Memory said = Unit {0}
Fails (Read n) said = IfErr said (λ f. is_before n f ≡ false)
Fails (Files wanted given) said = said ≡ Err (wrong_count wanted given)
Fails (Config fault) said = ConfigFails fault said
Fails ConfigLong said = said ≡ Err config_long
Fails (Log who fault) said = said ≡ Err (bad_log who fault)
Fails (FileLong n) said = said ≡ Err (file_long n)
Fails (JournalLine n) said = ⊥
Fails JournalFull said = ⊥
Fails (RecordsDisagree who) said = ⊥
Fails Write said = ⊥
Fails (Differs n) said = ⊥
Fails (Capture n fault) said = ⊥
Fails (Otherwise told) said = ⊥

abbrev pub Gives : {X Y : Type 0} → (X → Y) → Result X RunFault → Result Y Refusal → Type 0
Gives view (Ok x) said = said ≡ Ok (view x)
Gives view (Err e) said = Fails e said

-- ---- what the files say

-- the bytes of a file, unless it is longer than its limit
abbrev pub within : ℕ → Refusal → List ℕ → Result (List ℕ) Refusal
within limit refusal bytes = if nat_le (length bytes) limit then Ok bytes else Err refusal

abbrev pub or_bad_config : {A : Type 0} → Result A Fault → Result A Refusal
or_bad_config (Ok setup) = Ok setup
or_bad_config (Err fault) = Err (bad_config fault)

unfoldable pub config_of : List ℕ → Result RawSetup Refusal
config_of bytes = within 1048576 config_long bytes >>= λ text. or_bad_config (setup_of text)

-- the config was read whole, and says this setup
pub record SaysSetup (old new : Option (List ℕ)) (setup : RawSetup) : Type 0 where
  pub bytes : List ℕ
  pub read : ReadWhole old new bytes
  pub says : config_of bytes ≡ Ok setup

-- the config was read whole, and is refused for this fault
pub record IsRefused (old new : Option (List ℕ)) (fault : RunFault) : Type 0 where
  pub bytes : List ℕ
  pub read : ReadWhole old new bytes
  pub fails : Fails fault (config_of bytes)

-- The fault came in reading the config. Before a failed read, and before memory was refused, no more than its limit
-- was read.
abbrev pub ConfigEnds : Option (List ℕ) → Option (List ℕ) → RunFault → Type 0
ConfigEnds old new (Config fault) = IsRefused old new (Config fault)
ConfigEnds old new ConfigLong = Takes old new (λ bytes. 1048576 < length bytes)
ConfigEnds old new Memory = Takes old new (λ bytes. length bytes ≤ 1048576)
ConfigEnds old new (Read n) = (n ≡ 0) × Takes old new (λ bytes. length bytes ≤ 1048576)
ConfigEnds old new (Files wanted given) = ⊥
ConfigEnds old new (Log who fault) = ⊥
ConfigEnds old new (JournalLine n) = ⊥
ConfigEnds old new (FileLong n) = ⊥
ConfigEnds old new JournalFull = ⊥
ConfigEnds old new (RecordsDisagree who) = ⊥
ConfigEnds old new Write = ⊥
ConfigEnds old new (Differs n) = ⊥
ConfigEnds old new (Capture n fault) = ⊥
ConfigEnds old new (Otherwise told) = ⊥

abbrev pub counted : ℕ → ℕ → Result (Unit {0}) Refusal
counted wanted given = if wanted == given then Ok tt else Err (wrong_count wanted given)

-- the files from number n on, one after the other
unfoldable pub files_from : ℕ → ℕ → List (List ℕ) → Result (List (List ℕ)) Refusal
files_from limit n [] = Ok []
files_from limit n (f ∷ fs) = do
  first ← within limit (file_long n) f
  others ← files_from limit (n + 1) fs
  Ok (first ∷ others)

-- the first tester whose log is at fault, as the refusal of a run
abbrev pub or_bad_log : {A : Type 0} → Result A (ℕ × LogFault) → Result A Refusal
or_bad_log (Ok logs) = Ok logs
or_bad_log (Err first) = Err (bad_log first.0 first.1)

-- the readers have exactly these bytes left
abbrev pub AreKnown : {R : Type 0} → (R → Option (List ℕ)) → List R → List (List ℕ) → Type 0
AreKnown remaining readers files = map remaining readers ≡ map Some files

-- each reader was read whole: these texts, one of each
abbrev pub ReadEach : {R : Type 0} → (R → Option (List ℕ)) → List R → List R → List (List ℕ) → Type 0
ReadEach remaining [] [] [] = Unit {0}
ReadEach remaining (r ∷ rs) (r' ∷ rs') (text ∷ texts) =
    ReadWhole (remaining r) (remaining r') text × ReadEach remaining rs rs' texts
ReadEach remaining olds news texts = ⊥

-- each of these has taken its text
abbrev pub AreTaken : {T : Type 0} → (T → List ℕ → Type 0) → List T → List (List ℕ) → Type 0
AreTaken took [] [] = Unit {0}
AreTaken took (t ∷ ts) (text ∷ texts) = took t text × AreTaken took ts texts
AreTaken took ts texts = ⊥

-- each file was read whole, none is longer than the limit, and P holds of their texts
pub record FilesRead {R : Type 0} (remaining : R → Option (List ℕ)) (limit : ℕ) (old new : List R)
    (P : List (List ℕ) → Type 0) : Type 0 where
  pub texts : List (List ℕ)
  pub each : ReadEach remaining old new texts
  pub within : files_from limit 1 texts ≡ Ok texts
  pub holds : P texts

-- The reading ended at file n: those before it were read whole and are within the limit, of it bytes were read of which
-- P holds, and those behind it were not touched.
pub record EndsAt {R : Type 0} (remaining : R → Option (List ℕ)) (limit n : ℕ) (old new : List R)
    (P : List ℕ → Type 0) : Type 0 where
  pub front : List R
  pub front' : List R
  pub file : R
  pub file' : R
  pub behind : List R
  pub was : old ≡ front ++ file ∷ behind
  pub is : new ≡ front' ++ file' ∷ behind
  pub number : n ≡ length front + 1
  pub texts : List (List ℕ)
  pub each : ReadEach remaining front front' texts
  pub within : files_from limit 1 texts ≡ Ok texts
  pub seen : Takes (remaining file) (remaining file') P

-- file n is longer than the limit
abbrev pub IsTooLong : {R : Type 0} → (R → Option (List ℕ)) → ℕ → ℕ → List R → List R → Type 0
IsTooLong remaining limit n old new = EndsAt remaining limit n old new (λ bytes. limit < length bytes)

-- no more than the limit was read of file n when the fault came
abbrev pub FailsAt : {R : Type 0} → (R → Option (List ℕ)) → ℕ → ℕ → List R → List R → Type 0
FailsAt remaining limit n old new = EndsAt remaining limit n old new (λ bytes. length bytes ≤ limit)

-- the fault came in reading the files
abbrev pub FilesEnd : {R : Type 0} → (R → Option (List ℕ)) → ℕ → List R → List R → RunFault → Type 0
FilesEnd remaining limit old new (FileLong n) = IsTooLong remaining limit n old new
FilesEnd remaining limit old new (Read n) = FailsAt remaining limit n old new
FilesEnd remaining limit old new Memory = (n : ℕ) × FailsAt remaining limit n old new
FilesEnd remaining limit old new (Files wanted given) = ⊥
FilesEnd remaining limit old new (Config fault) = ⊥
FilesEnd remaining limit old new ConfigLong = ⊥
FilesEnd remaining limit old new (Log who fault) = ⊥
FilesEnd remaining limit old new (JournalLine n) = ⊥
FilesEnd remaining limit old new JournalFull = ⊥
FilesEnd remaining limit old new (RecordsDisagree who) = ⊥
FilesEnd remaining limit old new Write = ⊥
FilesEnd remaining limit old new (Differs n) = ⊥
FilesEnd remaining limit old new (Capture n fault) = ⊥
FilesEnd remaining limit old new (Otherwise told) = ⊥
