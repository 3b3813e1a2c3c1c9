-- Which logs ask for memory as they are read.
use Rattle.std.proofs.Common.{◌≡◌, ℕ, ◌+◌, List, [], ◌∷◌, map, Ok, Err, inr, refl, subst}
use Rattle.std.specs.Global.{Vec}
use Rattle.std.specs.Prelude.{IsOk, Result}
use Rattle.diag_can.specs.Event.{Event}
use Rattle.diag_can.specs.EventLog.{Events}
use Rattle.diag_can.specs.declared.fault.LogFault.{LogFault}
use Rattle.diag_can.specs.declared.log.Timing.{Timing}
use Rattle.diag_can.specs.Log.{events}
use Rattle.diag_setup.specs.declared.raw.RawSetup.{RawSetup}
use Rattle.diag_setup.specs.Setup.{ids_of}
use Rattle.diag_workers.specs.Play.{AsksFrom, Reads, ReadsOne, before_rest, logs_from}
use Rattle.diag_workers.specs.declared.playing.PlayFault.{PlayFault}

-- where all are well
pub all_well : (n : ℕ) (setup : RawSetup) (timing : Timing) (texts : List (List ℕ)) (logs : List (List Event)) → logs_from n setup timing texts ≡ Ok logs
    → AsksFrom n setup timing texts
all_well n setup timing [] logs well = tt
all_well n setup timing (text ∷ texts) logs well =
    let both = parts (events text (ids_of setup n) timing) (logs_from (n + 1) setup timing texts) well in
    inr (both.0, all_well (n + 1) setup timing texts both.1.0 both.1.1)
  where
    parts : (first : Result (List Event) LogFault) (rest : Result (List (List Event)) (ℕ × LogFault)) → before_rest n first rest ≡ Ok logs
        → IsOk first × ((others : List (List Event)) × (rest ≡ Ok others))
    parts (Err fault) rest h = cc h
    parts (Ok log) (Err fault) h = cc h
    parts (Ok log) (Ok others) h = (refl, (others, refl))

-- a log that is well, before those of the testers after it
pub behind_well : (n : ℕ) (setup : RawSetup) (timing : Timing) (text : List ℕ) (texts : List (List ℕ)) (log : List Event)
    → events text (ids_of setup n) timing ≡ Ok log → AsksFrom (n + 1) setup timing texts → AsksFrom n setup timing (text ∷ texts)
behind_well n setup timing text texts log well asks = inr (rw well refl, asks)

-- where it and they were read
pub both_read : (n : ℕ) (setup : RawSetup) (timing : Timing) (text : List ℕ) (texts : List (List ℕ)) (count : ℕ)
    (one : Result Events PlayFault) (others : Result (Vec Events) PlayFault) (log : Events) (logs : Vec Events)
    → one ≡ Ok log → others ≡ Ok logs → ReadsOne n (events text (ids_of setup n) timing) one
    → Reads (logs_from (n + 1) setup timing texts) count others → AsksFrom n setup timing (text ∷ texts)
both_read n setup timing text texts count one others log logs is_one is_others reads_one reads_others =
    let first : ReadsOne n (events text (ids_of setup n) timing) (Ok log) =
    subst (λ (r : Result Events PlayFault). ReadsOne n (events text (ids_of setup n) timing) r) is_one reads_one in
    let rest : Reads (logs_from (n + 1) setup timing texts) count (Ok logs) =
    subst (λ (r : Result (Vec Events) PlayFault). Reads (logs_from (n + 1) setup timing texts) count r) is_others reads_others in
    behind_well n setup timing text texts log.items first.0 (all_well (n + 1) setup timing texts (map (λ log. log.items) logs.items) rest.0)
