-- What a run has read, step by step.
use Rattle.std.proofs.Common.{◌≡◌, ◌≢◌, ◌⊎◌, ℕ, ◌==◌, ◌≤◌, true, false, length, List, Option, Result, Ok, Err, inl, inr, refl, ap, ◌∙◌, arith}
use Rattle.std.specs.Io.KnownBytes.{Keeps}
use Rattle.std.proofs.lemmas.Bool.Decides.{nat_tests}
use Rattle.diag_config.specs.declared.fault.ConfigFault.{ConfigFault}
use Rattle.diag_config.specs.declared.fault.ConfigFault.TheVariants as config
use Rattle.diag_setup.specs.declared.raw.RawSetup.{RawSetup}
use Rattle.diag_config.specs.Key.{◌>>=◌}
use Rattle.diag_text.specs.declared.fault.RunFault.{RunFault}
use Rattle.diag_text.specs.declared.fault.RunFault.TheVariants.{Files, Config, ConfigLong, Log, JournalLine, FileLong, Memory, JournalFull, RecordsDisagree, Read, Write, Differs, Capture, Otherwise}
use Rattle.diag_run.specs.declared.file_run.Job.{Job}
use Rattle.diag_run.specs.declared.file_run.Job.TheVariants.{Serial, Play, Replay}
use Rattle.diag_run.specs.Files.{Refusal, wrong_count, Fails, ConfigFails, config_of, files_from}
use Rattle.diag_run.specs.Run.{Inputs, inputs, ReadToEnd, ReadingStops, RunStops, AnswersFault, IsFaultOf, WhereKnown, WroteFront, wanted, limit, read_of, GivesRun}

-- a fault stays where what is read is only put into another shape
module _ {A B : Type 0} (f : A → B) where
  ConfigFails-map : (fault : ConfigFault) (said : Result A Refusal) → ConfigFails fault said → ConfigFails fault (said >>= λ x. Ok (f x))
  ConfigFails-map config.Syntax said h = rw h refl
  ConfigFails-map (config.Missing key) said h = rw h refl
  ConfigFails-map (config.BadValue key) said h = rw h refl
  ConfigFails-map (config.Setup fault) said h = rw h refl
  ConfigFails-map config.Memory said h = absurd h

  pub Fails-map : (fault : RunFault) (said : Result A Refusal) → Fails fault said → Fails fault (said >>= λ x. Ok (f x))
  Fails-map Memory said h = tt
  Fails-map (Read n) (Ok x) h = tt
  Fails-map (Read n) (Err e) h = h
  Fails-map (Files w g) said h = rw h refl
  Fails-map (Config fault) said h = ConfigFails-map fault said h
  Fails-map ConfigLong said h = rw h refl
  Fails-map (Log who fault) said h = rw h refl
  Fails-map (FileLong n) said h = rw h refl
  Fails-map (JournalLine n) said h = absurd h
  Fails-map JournalFull said h = absurd h
  Fails-map (RecordsDisagree who) said h = absurd h
  Fails-map Write said h = absurd h
  Fails-map (Differs n) said h = absurd h
  Fails-map (Capture n fault) said h = absurd h
  Fails-map (Otherwise told) said h = absurd h

module _ (job : Job) (bytes : List ℕ) (known : List (List ℕ)) (setup : RawSetup) (config : config_of bytes ≡ Ok setup) where
  pub miscounted : (wanted job setup ≡ length known → ⊥) → read_of job bytes known ≡ Err (wrong_count (wanted job setup) (length known))
  unfolding read_of
  miscounted differs =
      let test : (wanted job setup == length known) ≡ false = grind (arith, nat_tests, differs) in
      rw (config, test) refl

  well_counted : wanted job setup ≡ length known → read_of job bytes known ≡ (files_from (limit job) 1 known >>= λ texts. Ok (inputs setup texts))
  unfolding read_of
  well_counted same =
      let test : (wanted job setup == length known) ≡ true = grind (arith, nat_tests, same) in
      rw (config, test) refl

  pub read_whole : wanted job setup ≡ length known → (texts : List (List ℕ)) → files_from (limit job) 1 known ≡ Ok texts
      → read_of job bytes known ≡ Ok (inputs setup texts)
  read_whole same texts h = well_counted same ∙ ap (λ said. said >>= λ texts. Ok (inputs setup texts)) h

  pub read_fails : wanted job setup ≡ length known → (fault : RunFault) → Fails fault (files_from (limit job) 1 known) → Fails fault (read_of job bytes known)
  read_fails same fault h = rw (well_counted same) (Fails-map (inputs setup) fault (files_from (limit job) 1 known) h)

-- ---- of any readers, by the bytes that were read

-- all was read, and says this
module _ {R : Type 0} (remaining : R → Option (List ℕ)) (job : Job) (config config' : R) (files files' : List R) where
  pub ReadToEnd-map : (P Q : Result Inputs Refusal → Type 0) → ((said : Result Inputs Refusal) → P said → Q said)
      → ReadToEnd remaining job config config' files files' P
      → ReadToEnd remaining job config config' files files' Q
  ReadToEnd-map P Q more h = record { bytes = h.bytes; read = h.read; texts = h.texts; each = h.each; says = more (read_of job h.bytes h.texts) h.says }

-- nothing is written before the text is whole
pub no_write : (job : Job) (said : Result Inputs Refusal) → GivesRun job said (Err Write) → ⊥
no_write job said (inl h) = h
no_write (Serial only_journal timing) (Ok i) (inr h) = h
no_write (Play only_journal timing) (Ok i) (inr h) = h
no_write Replay (Ok i) (inr h) = h
no_write job (Err e) (inr h) = h

-- the fault of what was read is what is answered, with nothing written
answers_fault : (job : Job) (said : Result Inputs Refusal) (old new : Option (List ℕ)) (fault : RunFault) → GivesRun job said (Err fault)
    → AnswersFault job said old new fault
answers_fault job said old new (Files w g) h = h
answers_fault job said old new (Config f) h = h
answers_fault job said old new ConfigLong h = h
answers_fault job said old new (Log who f) h = h
answers_fault job said old new (JournalLine n) h = h
answers_fault job said old new (FileLong n) h = h
answers_fault job said old new Memory h = h
answers_fault job said old new JournalFull h = h
answers_fault job said old new (RecordsDisagree who) h = h
answers_fault job said old new (Read n) h = h
answers_fault job said old new (Differs n) h = h
answers_fault job said old new (Capture n f) h = h
answers_fault job said old new (Otherwise told) h = h
answers_fault job said old new Write h = absurd (no_write job said h)

-- what is answered, where it is known of the writing's fault and of every other
answer_of : (job : Job) (said : Result Inputs Refusal) (old new : Option (List ℕ)) (fault : RunFault) → (fault ≢ Write → GivesRun job said (Err fault))
    → (fault ≡ Write → WroteFront job said old new) → AnswersFault job said old new fault
answer_of job said old new (Files w g) given front = given (λ e. cc)
answer_of job said old new (Config f) given front = given (λ e. cc)
answer_of job said old new ConfigLong given front = given (λ e. cc)
answer_of job said old new (Log who f) given front = given (λ e. cc)
answer_of job said old new (JournalLine n) given front = given (λ e. cc)
answer_of job said old new (FileLong n) given front = given (λ e. cc)
answer_of job said old new Memory given front = given (λ e. cc)
answer_of job said old new JournalFull given front = given (λ e. cc)
answer_of job said old new (RecordsDisagree who) given front = given (λ e. cc)
answer_of job said old new (Read n) given front = given (λ e. cc)
answer_of job said old new (Differs n) given front = given (λ e. cc)
answer_of job said old new (Capture n f) given front = given (λ e. cc)
answer_of job said old new (Otherwise told) given front = given (λ e. cc)
answer_of job said old new Write given front = front refl

pub is_fault_of : {R : Type 0} (remaining : R → Option (List ℕ)) (job : Job) (config : R) (files : List R) (old new : Option (List ℕ)) (fault : RunFault)
    → (fault ≢ Write → Keeps old new)
    → ((n : ℕ) → fault ≡ Read n → n ≤ length files)
    → (fault ≢ Write → WhereKnown remaining job config files (λ said. GivesRun job said (Err fault)))
    → (fault ≡ Write → WhereKnown remaining job config files (λ said. WroteFront job said old new))
    → IsFaultOf remaining job config files old new fault
is_fault_of remaining job config files old new fault nothing device given front = record {
  nothing = nothing;
  device = device;
  answer = λ bytes known is are. answer_of job (read_of job bytes known) old new fault (λ e. given e bytes known is are) (λ e. front e bytes known is are);
}

-- a run stops where the making of its text does
pub run_stops : {R : Type 0} (remaining : R → Option (List ℕ)) (job : Job) (config config' : R) (files files' : List R) (old new : Option (List ℕ))
    (fault : RunFault)
    → ReadingStops remaining job config config' files files' fault
    ⊎ (((n : ℕ) → fault ≢ Read n) × ReadToEnd remaining job config config' files files' (λ said. GivesRun job said (Err fault)))
    → RunStops remaining job config config' files files' old new fault
run_stops remaining job config config' files files' old new fault (inl reading) = inl reading
run_stops remaining job config config' files files' old new fault (inr read) =
    inr (read.0, ReadToEnd-map remaining job config config' files files' _ _ (λ said. answers_fault job said old new fault) read.1)
