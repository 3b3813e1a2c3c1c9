-- What a play gives for its logs is what a run wants for them.
use Rattle.std.proofs.Common.{◌≡◌, ℕ, suc, ◌+◌, Bool, length, map, List, [], ◌∷◌, Result, Ok, Err, IfOk, IfErr, refl, sym, ap, ◌∙◌}
use Rattle.std.specs.Global.{Vec}
use Rattle.std.proofs.lemmas.List.{length-map}
use Rattle.diag_can.specs.Log.{events}
use Rattle.diag_can.specs.declared.fault.LogFault.{LogFault}
use Rattle.diag_can.specs.Event.{Event}
use Rattle.diag_can.specs.declared.log.Timing.{Timing}
use Rattle.diag_setup.specs.declared.raw.RawSetup.{RawSetup}
use Rattle.diag_setup.specs.Setup.{ids_of, link_of}
use Rattle.diag_tp.specs.declared.sent.Sent.{Sent}
use Rattle.diag_desk.specs.Legal.{Run}
use Rattle.diag_world.specs.Headline.{IsPlay}
use Rattle.diag_world.specs.Weaving.{weave}
use Rattle.diag_workers.specs.Play.{before_rest, logs_from, logs_of}
use Rattle.diag_text.specs.declared.fault.RunFault.{RunFault}
use Rattle.diag_text.specs.declared.fault.RunFault.TheVariants.{Memory}
use Rattle.diag_run.specs.Files.{bad_log, or_bad_log}
use Rattle.diag_run.specs.Run.{GivesWoven, answered, joined, played_text}

-- there are as many logs as texts
count_more : (n : ℕ) (log : Result (List Event) LogFault) (rest : Result (List (List Event)) (ℕ × LogFault)) (k : ℕ)
    → IfOk rest (λ logs. length logs ≡ k) → IfOk (before_rest n log rest) (λ logs. length logs ≡ suc k)
count_more n (Err fault) rest k h = tt
count_more n (Ok log) (Ok logs) k h = ap suc h
count_more n (Ok log) (Err e) k h = tt

module _ (timing : Timing) (setup : RawSetup) where
  count : (n : ℕ) (texts : List (List ℕ)) → IfOk (logs_from n setup timing texts) (λ logs. length logs ≡ length texts)
  count n [] = refl
  count n (text ∷ texts) =
      count_more n (events text (ids_of setup n) timing) (logs_from (n + 1) setup timing texts) (length texts) (count (n + 1) texts)

  pub log_ill : (texts : List (List ℕ)) (who : ℕ) (fault : LogFault) → logs_of setup timing texts ≡ Err (who, fault)
      → or_bad_log (logs_of setup timing texts) ≡ Err (bad_log who fault)
  log_ill texts who fault h = ap or_bad_log h

  module _ (texts : List (List ℕ)) (logs : List (List Event)) (well : logs_of setup timing texts ≡ Ok logs) where
    -- each tester has a list of frames
    pub as_many_frames : {V : Type 0} (frames : V → List Sent) (sent : List V) (M : List (ℕ × Event)) (desk : Run) → IsPlay setup M logs desk (map frames sent)
        → length texts ≡ length setup.testers → length sent ≡ length setup.testers
    as_many_frames frames sent M desk play same = sym (length-map sent frames) ∙ (play.testers ∙ ((rw well at (count 1 texts)) ∙ same))

    gives_woven : (only_journal : Bool) (desk : Run) (sent : List (List Sent)) (text : List ℕ)
        → IsPlay setup (weave (link_of setup) desk.journal logs) logs desk sent
        → text ≡ played_text only_journal timing setup desk sent → GivesWoven only_journal timing setup (or_bad_log (logs_of setup timing texts)) (Ok text)
    gives_woven only_journal desk sent text play is = rw well (record { desk = desk; sent = sent; play = play; is = is })

    -- what is answered for its parts is its text, or that memory was refused
    pub answers_woven : (only_journal : Bool) (desk : Run) (sent : List (List Sent)) (r : Result (Vec (Vec ℕ)) RunFault)
        → IsPlay setup (weave (link_of setup) desk.journal logs) logs desk sent
        → IfOk r (λ parts. joined parts ≡ played_text only_journal timing setup desk sent)
        → IfErr r (λ fault. fault ≡ Memory) → GivesWoven only_journal timing setup (or_bad_log (logs_of setup timing texts)) (answered r)
    answers_woven only_journal desk sent (Ok parts) play is refused = gives_woven only_journal desk sent (joined parts) play is
    answers_woven only_journal desk sent (Err fault) play is refused = rw refused tt
