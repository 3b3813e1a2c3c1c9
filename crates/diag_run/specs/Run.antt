-- What a run writes for its config and its files, or the fault that it answers.
use Rattle.std.specs.Prelude.{◌≡◌, ◌≢◌, ◌≤◌, ◌<◌, ◌⊎◌, ℕ, Bool, if◌then◌else◌, List, [], ◌∷◌, length, map, Option, Some, None, Result, Ok, Err, IsOk, IsOkAnd, IfSome, IsSome, true}
use Rattle.std.specs.Global.{Vec}
use Rattle.std.specs.Io.KnownBytes.{Appends, IsAtEnd, Keeps}
use Rattle.std.specs.List.{concat}
use Rattle.diag_can.specs.Event.{Event}
use Rattle.diag_can.specs.declared.log.Timing.{Timing}
use Rattle.diag_setup.specs.declared.raw.RawSetup.{RawSetup}
use Rattle.diag_setup.specs.Setup.{link_of}
use Rattle.diag_tp.specs.declared.sent.Sent.{Sent}
use Rattle.diag_ecu.specs.State.{opening}
use Rattle.diag_desk.specs.declared.entry.Entry.{Entry}
use Rattle.diag_desk.specs.Entry.{IsJournal, most_entries}
use Rattle.diag_desk.specs.Following.{HasTaken, TextDiffers}
use Rattle.diag_desk.specs.declared.following.TextReplay.{TextReplay}
use Rattle.diag_desk.specs.Fault.{IsTextOf, FaultAt}
use Rattle.diag_desk.specs.Legal.{Run, after}
use Rattle.diag_desk.specs.Replay.{IsLegalFor}
use Rattle.diag_world.specs.Headline.{IsPlay}
use Rattle.diag_world.specs.Weaving.{steps_of, turns, weave}
use Rattle.diag_config.specs.Key.{◌>>=◌}
use Rattle.diag_text.specs.Bytes.{AppendsFront, ReadWhole}
use Rattle.diag_text.specs.Faults.{fault_text, is_fixed, line_bytes, status}
use Rattle.diag_text.specs.Taking.{LinesTaken}
use Rattle.diag_run.specs.Files.{Refusal, Fails, AreKnown, ConfigEnds, FilesEnd, FilesRead, ReadEach, SaysSetup, config_of, counted, files_from, or_bad_log}
use Rattle.diag_workers.specs.Play.{logs_of}
use Rattle.diag_text.specs.Text.{journal_part, whole_text, replay_text}
use Rattle.diag_text.specs.declared.fault.RunFault.{RunFault}
use Rattle.diag_text.specs.declared.fault.RunFault.TheVariants.{Files, JournalLine, Memory, JournalFull, Read, Write, Differs}
use Rattle.diag_run.specs.declared.file_run.Outcome.{Outcome}
use Rattle.diag_run.specs.declared.file_run.Outcome.TheVariants as outcome
use Rattle.diag_run.specs.declared.alone_run.Alone.{Alone}
use Rattle.diag_run.specs.declared.alone_run.Alone.TheVariants as alone
use Rattle.diag_run.specs.declared.file_run.Job.{Job}
use Rattle.diag_run.specs.declared.file_run.Job.TheVariants.{Serial, Play, Replay}

-- what needs no thread of its own, as a job
abbrev pub job_of : Alone → Job
job_of (alone.Serial only_journal timing) = Serial only_journal timing
job_of alone.Replay = Replay

-- ---- what is read

-- how many files are wanted
abbrev pub wanted : Job → RawSetup → ℕ
wanted (Serial only_journal timing) setup = length setup.testers
wanted (Play only_journal timing) setup = length setup.testers
wanted Replay setup = 1

-- the most bytes of a file
abbrev pub limit : Job → ℕ
limit (Serial only_journal timing) = 67108864
limit (Play only_journal timing) = 67108864
limit Replay = 268435456

-- what a run has read
pub record Inputs : Type 0 where
  pub setup : RawSetup
  pub texts : List (List ℕ)

abbrev pub inputs : RawSetup → List (List ℕ) → Inputs
inputs setup texts = record { setup = setup; texts = texts }

unfoldable pub read_of : Job → List ℕ → List (List ℕ) → Result Inputs Refusal
read_of job config files = do
  setup ← config_of config
  _ ← counted (wanted job setup) (length files)
  texts ← files_from (limit job) 1 files
  Ok (inputs setup texts)

-- the config and each file were read whole, and P holds of what the bytes say that were read
pub record ReadToEnd {R : Type 0} (remaining : R → Option (List ℕ)) (job : Job) (config config' : R)
    (files files' : List R) (P : Result Inputs Refusal → Type 0) : Type 0 where
  pub bytes : List ℕ
  pub read : ReadWhole (remaining config) (remaining config') bytes
  pub texts : List (List ℕ)
  pub each : ReadEach remaining files files' texts
  pub says : P (read_of job bytes texts)

-- where it is known what the readers have left, P holds of what those bytes say
abbrev pub WhereKnown : {R : Type 0} → (R → Option (List ℕ)) → Job → R → List R
    → (Result Inputs Refusal → Type 0) → Type 0
WhereKnown remaining job config files P =
    (bytes : List ℕ) (known : List (List ℕ))
    → remaining config ≡ Some bytes
    → AreKnown remaining files known
    → P (read_of job bytes known)

-- a failed read names a file that there is
abbrev pub NamesAFile : {X : Type 0} → ℕ → Result X RunFault → Type 0
NamesAFile count result = (n : ℕ) → result ≡ Err (Read n) → n ≤ count

-- where the read of another file than the config failed, the config was read to its end
abbrev pub ReadsConfigFirst : {X : Type 0} → Option (List ℕ) → Result X RunFault → Type 0
ReadsConfigFirst left result = (n : ℕ) → result ≡ Err (Read n) → 1 ≤ n → IsAtEnd left

-- ---- what is answered for it

-- the bytes of a text in parts
abbrev pub joined : Vec (Vec ℕ) → List ℕ
joined parts = concat (map (λ part. part.items) parts.items)

-- the bytes of a text that was made
abbrev pub answered : Result (Vec (Vec ℕ)) RunFault → Result (List ℕ) RunFault
answered (Ok parts) = Ok (joined parts)
answered (Err fault) = Err fault

-- the text of a play: the journal alone where that is asked for
abbrev pub played_text : Bool → Timing → RawSetup → Run → List (List Sent) → List ℕ
played_text only_journal timing setup desk sent =
    if only_journal then journal_part timing desk.journal else whole_text timing setup desk sent

-- one event of each log in turn, whatever the journal is
abbrev pub in_turn : List Entry → List (List Event) → List (ℕ × Event)
in_turn journal logs = turns logs

-- the interleaving of the logs whose run the journal is
abbrev pub woven : RawSetup → List Entry → List (List Event) → List (ℕ × Event)
woven setup journal logs = weave (link_of setup) journal logs

-- the text of some play of these logs, which took their events in the order that belongs to its journal
pub record IsPlayedText (order : List Entry → List (List Event) → List (ℕ × Event))
    (only_journal : Bool) (timing : Timing) (setup : RawSetup) (logs : List (List Event))
    (text : List ℕ) : Type 0 where
  pub desk : Run
  pub sent : List (List Sent)
  pub play : IsPlay setup (order desk.journal logs) logs desk sent
  pub is : text ≡ played_text only_journal timing setup desk sent

-- the journal is full only where the logs give more steps than it has room for
abbrev pub GivesPlayed : Bool → Timing → RawSetup → Result (List (List Event)) Refusal
    → Result (List ℕ) RunFault → Type 0
GivesPlayed only_journal timing setup said (Ok text) =
    IsOkAnd said (λ logs. IsPlayedText in_turn only_journal timing setup logs text)
GivesPlayed only_journal timing setup said (Err JournalFull) =
    IsOkAnd said (λ logs. most_entries < length (steps_of (link_of setup) (turns logs)))
GivesPlayed only_journal timing setup said (Err fault) = Fails fault said

-- the same of a play in which each tester has a thread. The journal is full only where the logs are well
abbrev pub GivesWoven : Bool → Timing → RawSetup → Result (List (List Event)) Refusal
    → Result (List ℕ) RunFault → Type 0
GivesWoven only_journal timing setup said (Ok text) =
    IsOkAnd said (λ logs. IsPlayedText (woven setup) only_journal timing setup logs text)
GivesWoven only_journal timing setup said (Err JournalFull) = IsOk said
GivesWoven only_journal timing setup said (Err fault) = Fails fault said

-- the bytes are the text of these entries, which are legal for the setup: the replay goes through
pub record IsReplayable (setup : RawSetup) (bytes : List ℕ) : Type 0 where
  pub entries : List Entry
  pub journal : IsJournal entries
  pub read : IsTextOf bytes entries
  pub run : IsLegalFor setup entries

-- and this is what is told of it
pub record IsReplayedText (setup : RawSetup) (bytes : List ℕ) (text : List ℕ) : Type 0 where
  pub entries : List Entry
  pub journal : IsJournal entries
  pub read : IsTextOf bytes entries
  pub run : IsLegalFor setup entries
  pub is : text ≡ replay_text setup (length entries) (after (opening setup) entries)

abbrev pub GivesReplayed : RawSetup → List ℕ → Result (List ℕ) RunFault → Type 0
GivesReplayed setup bytes (Ok text) = IsReplayedText setup bytes text
GivesReplayed setup bytes (Err (JournalLine n)) = FaultAt bytes n
GivesReplayed setup bytes (Err (Differs n)) = TextDiffers setup bytes n
GivesReplayed setup bytes (Err Memory) = IsReplayable setup bytes
GivesReplayed setup bytes (Err fault) = ⊥

-- the one text was taken up to these bytes of a line that no line feed ended
abbrev pub IsReplayedTo : RawSetup → TextReplay → List ℕ → List (List ℕ) → Type 0
IsReplayedTo setup replay begun texts =
    (text : List ℕ) × (texts ≡ text ∷ []) × LinesTaken (HasTaken setup replay) begun text

abbrev pub first_text : List (List ℕ) → List ℕ
first_text [] = []
first_text (text ∷ texts) = text

-- what is answered for what was read
abbrev pub GivesText : Job → Inputs → Result (List ℕ) RunFault → Type 0
GivesText (Serial only_journal timing) i answer =
    GivesPlayed only_journal timing i.setup (or_bad_log (logs_of i.setup timing i.texts)) answer
GivesText (Play only_journal timing) i answer =
    GivesWoven only_journal timing i.setup (or_bad_log (logs_of i.setup timing i.texts)) answer
GivesText Replay i answer = GivesReplayed i.setup (first_text i.texts) answer

-- A text for the files, each of which was read whole. Or the fault came in reading them; or they were read whole, and it is
-- that of what they say, and no failed read.
abbrev pub FilesGive : {R : Type 0} → (R → Option (List ℕ)) → Job → RawSetup → List R → List R
    → Result (List ℕ) RunFault → Type 0
FilesGive remaining job setup old new (Ok text) =
    FilesRead remaining (limit job) old new (λ texts. GivesText job (inputs setup texts) (Ok text))
FilesGive remaining job setup old new (Err fault) = FilesEnd remaining (limit job) old new fault
    ⊎ (((n : ℕ) → fault ≢ Read n)
    × FilesRead remaining (limit job) old new (λ texts. GivesText job (inputs setup texts) (Err fault)))

-- a text for what was read; a fault of the reading, or of what was read
abbrev pub GivesRun : Job → Result Inputs Refusal → Result (List ℕ) RunFault → Type 0
GivesRun job said (Ok text) = IsOkAnd said (λ i. GivesText job i (Ok text))
GivesRun job said (Err fault) = Fails fault said ⊎ IsOkAnd said (λ i. GivesText job i (Err fault))

-- ---- what is written

-- the text of the run went out, and nothing else
pub record Wrote (job : Job) (said : Result Inputs Refusal) (old new : Option (List ℕ))
    : Type 0 where
  pub text : List ℕ
  pub gives : GivesRun job said (Ok text)
  pub appends : Appends old new text

-- a front of the text of the run went out, and nothing else
pub record WroteFront (job : Job) (said : Result Inputs Refusal) (old new : Option (List ℕ))
    : Type 0 where
  pub text : List ℕ
  pub gives : GivesRun job said (Ok text)
  pub appends : AppendsFront old new text

-- ---- how a run of any readers ends by a fault

-- the config was read whole, and there are not as many files as it wants, none of which was touched; or the fault came
-- in reading them
pub record FilesStop {R : Type 0} (remaining : R → Option (List ℕ)) (job : Job) (config config' : R)
    (files files' : List R) (fault : RunFault) : Type 0 where
  pub setup : RawSetup
  pub says : SaysSetup (remaining config) (remaining config') setup
  pub ends : ((fault ≡ Files (wanted job setup) (length files)) × (wanted job setup ≢ length files)
      × (files' ≡ files))
      ⊎ ((wanted job setup ≡ length files) × FilesEnd remaining (limit job) files files' fault)

-- the fault came in reading: the config, and no file was touched, or the files
abbrev pub ReadingStops : {R : Type 0} → (R → Option (List ℕ)) → Job → R → R → List R → List R → RunFault
    → Type 0
ReadingStops remaining job config config' files files' fault =
    (ConfigEnds (remaining config) (remaining config') fault × (files' ≡ files))
    ⊎ FilesStop remaining job config config' files files' fault

-- the text was not made: the fault came in reading; or all was read whole, and the fault is that of what was read, and
-- no failed read
abbrev pub TextStops : {R : Type 0} → (R → Option (List ℕ)) → Job → R → R → List R → List R → RunFault
    → Type 0
TextStops remaining job config config' files files' fault =
    ReadingStops remaining job config config' files files' fault
    ⊎ (((n : ℕ) → fault ≢ Read n)
    × ReadToEnd remaining job config config' files files' (λ said. GivesRun job said (Err fault)))

-- the text that was made went out, or after a fault a front of it; where none was made, nothing
abbrev pub Writes : Result (List ℕ) RunFault → Option (List ℕ) → Option (List ℕ)
    → Result (Unit {0}) RunFault → Type 0
Writes (Ok text) old new (Ok _) = Appends old new text
Writes (Ok text) old new (Err e) = (e ≡ Write) × AppendsFront old new text
Writes (Err fault) old new (Ok _) = ⊥
Writes (Err fault) old new (Err e) = (fault ≡ e) × Keeps old new

-- ---- how it is told

-- the fault of a writing comes after a front of the text, any other is that of what was read
abbrev pub AnswersFault : Job → Result Inputs Refusal → Option (List ℕ) → Option (List ℕ) → RunFault
    → Type 0
AnswersFault job said old new Write = WroteFront job said old new
AnswersFault job said old new fault = GivesRun job said (Err fault)

-- The fault came in reading; or all was read whole, and the fault is that of what was read, or of the writing, and no
-- failed read.
abbrev pub RunStops : {R : Type 0} → (R → Option (List ℕ)) → Job → R → R → List R → List R
    → Option (List ℕ) → Option (List ℕ) → RunFault → Type 0
RunStops remaining job config config' files files' old new fault =
    ReadingStops remaining job config config' files files' fault
    ⊎ (((n : ℕ) → fault ≢ Read n)
    × ReadToEnd remaining job config config' files files' (λ said. AnswersFault job said old new fault))

-- the fault is answered by a run of these readers, and before another than that of the writing nothing is written
pub record IsFaultOf {R : Type 0} (remaining : R → Option (List ℕ)) (job : Job) (config : R)
    (files : List R) (old new : Option (List ℕ)) (fault : RunFault) : Type 0 where
  pub nothing : fault ≢ Write → Keeps old new
  pub device : (n : ℕ) → fault ≡ Read n → n ≤ length files
  pub answer : WhereKnown remaining job config files (λ said. AnswersFault job said old new fault)

-- where it wrote its whole text, P holds of the status
abbrev pub DoneOf : (ℕ → Type 0) → Outcome → Type 0
DoneOf P (outcome.Done status) = P status
DoneOf P (outcome.Fault told number) = Unit {0}

-- it ended by this fault: the line, unless there was no memory for it, which a fixed one doesn't take, and the status are
-- the fault's
abbrev pub Tells : RunFault → Outcome → Type 0
Tells fault (outcome.Done number) = ⊥
Tells fault (outcome.Fault told number) =
    IfSome told (λ line. line_bytes line ≡ fault_text fault)
    × (is_fixed fault ≡ true → IsSome told)
    × (number ≡ status fault)

-- it ended by this fault, or by none, and P holds of that
abbrev pub EndsOf : (Option RunFault → Type 0) → Outcome → Type 0
EndsOf P (outcome.Done number) = P None
EndsOf P (outcome.Fault told number) = (fault : RunFault) × P (Some fault) × Tells fault (outcome.Fault told number)
