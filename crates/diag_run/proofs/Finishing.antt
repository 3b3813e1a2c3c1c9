-- The logs that were taken, and what they say as one after the other is finished.
use Rattle.std.proofs.Common.{◌≡◌, ℕ, ◌+◌, length, map, drop, slice_index_or, List, [], ◌∷◌, ◌++◌, Result, Ok, Err, refl, sym, ap, subst, ◌∙◌, arith, append_assoc, append-nil, length-append}
use Rattle.std.proofs.lemmas.List.{map-append}
use Rattle.diag_can.specs.BusLine.{HasNoFeed}
use Rattle.diag_can.specs.HasRead.{HasRead}
use Rattle.diag_can.specs.Log.{events}
use Rattle.diag_can.specs.declared.fault.LogFault.{LogFault}
use Rattle.diag_can.specs.Event.{Event}
use Rattle.diag_can.specs.EventLog.{Events}
use Rattle.diag_can.specs.declared.log.Timing.{Timing}
use Rattle.diag_setup.specs.declared.raw.RawSetup.{RawSetup}
use Rattle.diag_setup.specs.Setup.{ids_of}
use Rattle.diag_text.specs.declared.taking.LineTaker.{LineTaker}
use Rattle.diag_workers.specs.Play.{NotRead, ReadsOne, before_rest, logs_from, logs_of}
use Rattle.diag_workers.specs.declared.playing.PlayFault.{PlayFault}
use Rattle.diag_workers.specs.declared.playing.PlayFault.TheVariants.{Memory, Log, JournalFull, RecordsDisagree}
use Rattle.diag_run.specs.declared.logs.LogLines.{LogLines}
use Rattle.diag_run.specs.Files.{AreTaken}
use Rattle.diag_run.specs.Logs.{AreLogs, TookLog, aim_of}

module _ (setup : RawSetup) (timing : Timing) where
  -- one tester's log more
  pub AreLogs-push : (n : ℕ) (takers : List (LineTaker LogLines)) (new : LineTaker LogLines) (who : ℕ) → who ≡ n + length takers
      → aim_of new ≡ (who, ids_of setup who, timing) → AreLogs n setup timing takers → AreLogs n setup timing (takers ++ new ∷ [])
  AreLogs-push n [] new who is aim are =
      let same : who ≡ n = omega (arith, is) in
      (subst (λ m. aim_of new ≡ (m, ids_of setup m, timing)) same aim, tt)
  AreLogs-push n (t ∷ ts) new who is aim are = (are.0, AreLogs-push (n + 1) ts new who (omega (arith, is)) aim are.1)

  -- what takes a log takes the same log when it has taken some of it
  pub AreLogs-same : (n : ℕ) (takers olds : List (LineTaker LogLines)) → map aim_of takers ≡ map aim_of olds → AreLogs n setup timing olds
      → AreLogs n setup timing takers
  AreLogs-same n [] olds same are = tt
  AreLogs-same n (t ∷ ts) [] same are = cc same
  AreLogs-same n (t ∷ ts) (o ∷ os) same are = (
    ap (λ xs. slice_index_or xs 0 (aim_of t)) same ∙ are.0,
    AreLogs-same (n + 1) ts os (ap (drop 1) same) are.1,
  )

-- nothing of a log was taken
pub none_taken : (taker : LineTaker LogLines) → HasRead taker.lines.ids taker.lines.timing taker.lines.log [] → taker.begun.items ≡ [] → TookLog taker []
none_taken taker read none = record {
  lines = [];
  took = read;
  is = sym none;
  unended = subst HasNoFeed (sym none) (λ k d less. absurd (omega arith));
}

-- a log is taken, and those behind it
pub next_taken : {T : Type 0} (took : T → List ℕ → Type 0) (taker : T) (takers : List T) → (texts : List (List ℕ)) × AreTaken took (taker ∷ takers) texts
    → ((text : List ℕ) × took taker text) × ((texts : List (List ℕ)) × AreTaken took takers texts)
next_taken took taker takers (texts, taken) = split texts taken
  where
    split : (texts : List (List ℕ)) → AreTaken took (taker ∷ takers) texts
        → ((text : List ℕ) × took taker text) × ((texts : List (List ℕ)) × AreTaken took takers texts)
    split [] h = absurd h
    split (text ∷ rest) h = ((text, h.0), (rest, h.1))

-- ---- logs that are finished in front of others

abbrev behind : List (List Event) → Result (List (List Event)) (ℕ × LogFault) → Result (List (List Event)) (ℕ × LogFault)
behind done (Ok logs) = Ok (done ++ logs)
behind done (Err first) = Err first

behind_one : (done : List (List Event)) (n : ℕ) (log : List Event) (said : Result (List (List Event)) (ℕ × LogFault))
    → behind (done ++ log ∷ []) said ≡ behind done (before_rest n (Ok log) said)
behind_one done n log (Ok logs) = ap (λ l. Ok l) (append_assoc done (log ∷ []) logs)
behind_one done n log (Err first) = refl

-- these logs are what the first texts give, and the takers have the others
pub record Finished (setup : RawSetup) (timing : Timing) (texts : List (List ℕ)) (done : List Events) (takers : List (LineTaker LogLines)) : Type 0 where
  pub rest : List (List ℕ)
  pub logs : AreLogs (length done + 1) setup timing takers
  pub taken : AreTaken TookLog takers rest
  pub so_far : behind (map (λ log. log.items) done) (logs_from (length done + 1) setup timing rest) ≡ logs_of setup timing texts

module _ (setup : RawSetup) (timing : Timing) (texts : List (List ℕ)) where
  pub all_finished : (done : List Events) (takers : List (LineTaker LogLines)) → takers ≡ [] → Finished setup timing texts done takers
      → logs_of setup timing texts ≡ Ok (map (λ log. log.items) done)
  all_finished done takers none f = ended f.rest (subst (λ l. AreTaken TookLog l f.rest) none f.taken) f.so_far
    where
      ended : (rest : List (List ℕ)) → AreTaken TookLog [] rest
          → behind (map (λ log. log.items) done) (logs_from (length done + 1) setup timing rest) ≡ logs_of setup timing texts
          → logs_of setup timing texts ≡ Ok (map (λ log. log.items) done)
      ended [] taken is = sym is ∙ ap (λ l. Ok l) (append-nil (map (λ log. log.items) done))
      ended (text ∷ rest) taken is = absurd taken

  module _ (done : List Events) (taker : LineTaker LogLines) (takers : List (LineTaker LogLines)) where
    -- the log that is next, in front of the others
    abbrev says : List ℕ → Result (List Event) LogFault
    says text = events text taker.lines.ids taker.lines.timing

    abbrev before : Result (List Event) LogFault → List (List ℕ) → Result (List (List Event)) (ℕ × LogFault)
    before said rest = behind (map (λ log. log.items) done) (before_rest (length done + 1) said (logs_from (length done + 1 + 1) setup timing rest))

    said_next : aim_of taker ≡ (length done + 1, ids_of setup (length done + 1), timing) → (text : List ℕ) (said : Result (List Event) LogFault) → says text ≡ said
        → events text (ids_of setup (length done + 1)) timing ≡ said
    said_next aim text said h = sym (ap (λ a. events text a.1 a.2) aim) ∙ h

    module _ (all : List (LineTaker LogLines)) (is : all ≡ taker ∷ takers) (f : Finished setup timing texts done all) where
      all_logs : AreLogs (length done + 1) setup timing (taker ∷ takers)
      all_logs = subst (AreLogs (length done + 1) setup timing) is f.logs

      all_taken : AreTaken TookLog (taker ∷ takers) f.rest
      all_taken = subst (λ l. AreTaken TookLog l f.rest) is f.taken

      pub one_finished : (log : Events) → ((text : List ℕ) → TookLog taker text → says text ≡ Ok log.items)
          → Finished setup timing texts (done ++ log ∷ []) takers
      one_finished log well = more f.rest all_taken f.so_far
        where
          next : length (done ++ log ∷ []) + 1 ≡ length done + 1 + 1
          next = ap (λ m. m + 1) (length-append done (log ∷ []))

          more : (rest : List (List ℕ)) → AreTaken TookLog (taker ∷ takers) rest
              → behind (map (λ log. log.items) done) (logs_from (length done + 1) setup timing rest) ≡ logs_of setup timing texts
              → Finished setup timing texts (done ++ log ∷ []) takers
          more [] taken so_far = absurd taken
          more (text ∷ rest) taken so_far = record {
            rest = rest;
            logs = subst (λ m. AreLogs m setup timing takers) (sym next) all_logs.1;
            taken = taken.1;
            so_far = ap (λ m. behind (map (λ log. log.items) (done ++ log ∷ [])) (logs_from m setup timing rest)) next
                ∙ (ap (λ d. behind d (logs_from (length done + 1 + 1) setup timing rest)) (map-append (λ log. log.items) done (log ∷ []))
                ∙ (behind_one (map (λ log. log.items) done) (length done + 1) log.items (logs_from (length done + 1 + 1) setup timing rest)
                ∙ (ap (λ said. before said rest) (sym (said_next all_logs.0 text (Ok log.items) (well text taken.0))) ∙ so_far)));
          }

      -- a log at fault: none before it is
      pub one_at_fault : (fault : PlayFault) → ((text : List ℕ) → TookLog taker text → ReadsOne taker.lines.who (says text) (Err fault))
          → NotRead (logs_of setup timing texts) fault
      one_at_fault fault ill = told fault ill f.rest all_taken f.so_far
        where
          told : (fault : PlayFault) → ((text : List ℕ) → TookLog taker text → ReadsOne taker.lines.who (says text) (Err fault))
              → (rest : List (List ℕ)) → AreTaken TookLog (taker ∷ takers) rest
              → behind (map (λ log. log.items) done) (logs_from (length done + 1) setup timing rest) ≡ logs_of setup timing texts
              → NotRead (logs_of setup timing texts) fault
          told fault ill [] taken so_far = absurd taken
          told Memory ill (text ∷ rest) taken so_far = tt
          told (Log who fault) ill (text ∷ rest) taken so_far =
              let one = ill text taken.0 in
              sym so_far ∙ (ap (λ said. before said rest) (said_next all_logs.0 text (Err fault) one.1)
              ∙ ap (λ m. Err (m, fault)) (sym (ap (λ a. a.0) all_logs.0) ∙ sym one.0))
          told JournalFull ill (text ∷ rest) taken so_far = absurd (ill text taken.0)
          told (RecordsDisagree who) ill (text ∷ rest) taken so_far = absurd (ill text taken.0)
