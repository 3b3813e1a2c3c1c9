-- What a run does that writes the text which was made, or nothing where none was.
use Rattle.std.proofs.Common.{◌≡◌, ◌≢◌, ℕ, length, List, Option, Result, Ok, Err, OnOk, IfOk, IfErr, inl, inr, ap, subst}
use Rattle.std.specs.Global.{Vec}
use Rattle.std.specs.Io.KnownBytes.{Keeps}
use Rattle.diag_text.specs.declared.fault.RunFault.{RunFault}
use Rattle.diag_text.specs.declared.fault.RunFault.TheVariants.{Read, Write}
use Rattle.diag_run.specs.declared.file_run.Job.{Job}
use Rattle.diag_run.specs.Run.{ReadToEnd, GivesRun, NamesAFile, RunStops, TextStops, WhereKnown, Writes, Wrote, WroteFront, answered, joined, read_of}
use Rattle.diag_run.proofs.Inputs.{ReadToEnd-map, no_write, run_stops}

-- the clauses of a run
pub record Runs {R : Type 0} (remaining : R → Option (List ℕ)) (job : Job) (config config' : R) (files files' : List R) (old new : Option (List ℕ))
    (result : Result (Unit {0}) RunFault) : Type 0 where
  pub done : OnOk result (WhereKnown remaining job config files (λ said. Wrote job said old new))
  pub fault : IfErr result (λ e. e ≢ Write → WhereKnown remaining job config files (λ said. GivesRun job said (Err e)))
  pub device : NamesAFile (length files) result
  pub nothing : IfErr result (λ e. e ≢ Write → Keeps old new)
  pub front : result ≡ Err Write → WhereKnown remaining job config files (λ said. WroteFront job said old new)
  pub reads : OnOk result (ReadToEnd remaining job config config' files files' (λ said. Wrote job said old new))
  pub stops : IfErr result (RunStops remaining job config config' files files' old new)

abbrev failed : RunFault → Result (Unit {0}) RunFault
failed e = Err e

same_fault : (e f : RunFault) → failed e ≡ failed f → e ≡ f
same_fault e f h = cc

not_read : (e : RunFault) (n : ℕ) → e ≡ Write → failed e ≡ failed (Read n) → ⊥
not_read e n write is = let read = same_fault e (Read n) is in cc

not_failed : (e : RunFault) → Ok tt ≡ failed e → ⊥
not_failed e h = cc

module _ {R : Type 0} (remaining : R → Option (List ℕ)) (job : Job) (config config' : R) (files files' : List R) (old new : Option (List ℕ)) where
  -- nothing was written for a fault of what was read
  not_written : (fault : RunFault) → WhereKnown remaining job config files (λ said. GivesRun job said (Err fault)) → fault ≡ Write
      → WhereKnown remaining job config files (λ said. WroteFront job said old new)
  not_written fault answer same bytes known config_is files_are =
      let said = read_of job bytes known in
      absurd (no_write job said (subst (λ g. GivesRun job said (Err g)) same (answer bytes known config_is files_are)))

  pub writes_run : (made : Result (Vec (Vec ℕ)) RunFault) (result : Result (Unit {0}) RunFault)
      → WhereKnown remaining job config files (λ said. GivesRun job said (answered made))
      → NamesAFile (length files) made
      → IfOk made (λ parts. ReadToEnd remaining job config config' files files' (λ said. GivesRun job said (Ok (joined parts))))
      → IfErr made (TextStops remaining job config config' files files')
      → Writes (answered made) old new result
      → Runs remaining job config config' files files' old new result
  writes_run (Ok parts) (Ok u) answer device reads stops w = record {
    done = λ bytes known c f. record { text = joined parts; gives = answer bytes known c f; appends = w };
    fault = tt;
    device = λ n is. absurd (not_failed (Read n) is);
    nothing = tt;
    front = λ is. absurd (not_failed Write is);
    reads = ReadToEnd-map remaining job config config' files files' _ _ (λ said gives. record { text = joined parts; gives = gives; appends = w }) reads;
    stops = tt;
  }
  writes_run (Ok parts) (Err e) answer device reads stops w = record {
    done = tt;
    fault = λ no. absurd (no w.0);
    device = λ n is. absurd (not_read e n w.0 is);
    nothing = λ no. absurd (no w.0);
    front = λ is bytes known c f. record { text = joined parts; gives = answer bytes known c f; appends = w.1 };
    reads = tt;
    stops = rw w.0 (inr (
      λ n is. cc,
      ReadToEnd-map remaining job config config' files files' _ _ (λ said gives. record { text = joined parts; gives = gives; appends = w.1 }) reads,
    ));
  }
  writes_run (Err fault) (Ok u) answer device reads stops w = absurd w
  writes_run (Err fault) (Err e) answer device reads stops w = subst (λ g. Runs remaining job config config' files files' old new (failed g)) w.0 (record {
    done = tt;
    fault = λ no. answer;
    device = λ n is. let same = same_fault fault (Read n) is in device n (ap (λ g. Err g) same);
    nothing = λ no. w.1;
    front = λ is. not_written fault answer (same_fault fault Write is);
    reads = tt;
    stops = run_stops remaining job config config' files files' old new fault stops;
  })

abbrev unmade : RunFault → Result (Vec (Vec ℕ)) RunFault
unmade e = Err e

made_same : (e f : RunFault) → unmade e ≡ unmade f → e ≡ f
made_same e f h = cc

-- the making of a text writes nothing
never_written : {R : Type 0} (remaining : R → Option (List ℕ)) (job : Job) (config config' : R) (files files' : List R)
    → TextStops remaining job config config' files files' Write → ⊥
never_written remaining job config config' files files' (inl (inl ends)) = ends.0
never_written remaining job config config' files files' (inl (inr stop)) = elim stop.ends [
  | inl h ↦ let count = h.0 in cc
  | inr h ↦ h.1
]
never_written remaining job config config' files files' (inr read) = no_write job (read_of job read.1.bytes read.1.texts) read.1.says

pub made_no_write : {R : Type 0} (remaining : R → Option (List ℕ)) (job : Job) (config config' : R) (files files' : List R) (made : Result (Vec (Vec ℕ)) RunFault)
    → IfErr made (TextStops remaining job config config' files files') → made ≢ Err Write
made_no_write remaining job config config' files files' (Ok parts) stops is = cc is
made_no_write remaining job config config' files files' (Err fault) stops is =
    never_written remaining job config config' files files' (subst (TextStops remaining job config config' files files') (made_same fault Write is) stops)
