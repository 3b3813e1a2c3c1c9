-- The logs of all testers, as they are read: in order, and the first that is at fault decides.
use Rattle.std.specs.Prelude.{◌≡◌, ◌≤◌, ◌⊎◌, ℕ, ◌+◌, IsOk, List, [], ◌∷◌, length, map, Result, Ok, Err}
use Rattle.std.specs.Global.{Vec}
use Rattle.std.specs.List.{AllByRecursion}
use Rattle.diag_can.specs.Event.{Event}
use Rattle.diag_can.specs.EventLog.{Events}
use Rattle.diag_can.specs.declared.log.Timing.{Timing}
use Rattle.diag_can.specs.declared.fault.LogFault.{LogFault}
use Rattle.diag_can.specs.Growing.{HasEvent}
use Rattle.diag_can.specs.Log.{events, most_events}
use Rattle.diag_setup.specs.declared.raw.RawSetup.{RawSetup}
use Rattle.diag_setup.specs.Setup.{ids_of}
use Rattle.diag_workers.specs.declared.playing.PlayFault.{PlayFault}
use Rattle.diag_workers.specs.declared.playing.PlayFault.TheVariants.{Memory, Log, JournalFull, RecordsDisagree}

-- the log of tester n, before those of the testers after it
abbrev pub before_rest : ℕ → Result (List Event) LogFault
    → Result (List (List Event)) (ℕ × LogFault) → Result (List (List Event)) (ℕ × LogFault)
before_rest n (Err fault) rest = Err (n, fault)
before_rest n (Ok log) (Ok logs) = Ok (log ∷ logs)
before_rest n (Ok log) (Err first) = Err first

-- the logs of tester n and those after it
abbrev pub logs_from : ℕ → RawSetup → Timing → List (List ℕ)
    → Result (List (List Event)) (ℕ × LogFault)
logs_from n setup timing [] = Ok []
logs_from n setup timing (text ∷ texts) =
    before_rest n (events text (ids_of setup n) timing) (logs_from (n + 1) setup timing texts)

-- the events of each tester's log, or the first tester whose log is at fault, and its fault
abbrev pub logs_of : RawSetup → Timing → List (List ℕ) → Result (List (List Event)) (ℕ × LogFault)
logs_of setup timing texts = logs_from 1 setup timing texts

-- reading the logs of tester n and those after it asks for memory: one of them gives an event, before which no line is at
-- fault, in it or in a log before it; or all are well
abbrev pub AsksFrom : ℕ → RawSetup → Timing → List (List ℕ) → Type 0
AsksFrom n setup timing [] = Unit {0}
AsksFrom n setup timing (text ∷ texts) = HasEvent timing (ids_of setup n) text
    ⊎ (IsOk (events text (ids_of setup n) timing) × AsksFrom (n + 1) setup timing texts)

-- the same of all testers' logs
abbrev pub LogsAsk : RawSetup → Timing → List (List ℕ) → Type 0
LogsAsk setup timing texts = AsksFrom 1 setup timing texts

-- what reading a tester's log answers, where this is what it says
abbrev pub ReadsOne : ℕ → Result (List Event) LogFault → Result Events PlayFault → Type 0
ReadsOne n log (Ok read) = (log ≡ Ok read.items) × (length read.items ≤ most_events)
ReadsOne n log (Err Memory) = Unit {0}
ReadsOne n log (Err (Log who fault)) = (who ≡ n) × (log ≡ Err fault)
ReadsOne n log (Err JournalFull) = ⊥
ReadsOne n log (Err (RecordsDisagree who)) = ⊥

-- why the logs are not read, where this is what they say
abbrev pub NotRead : Result (List (List Event)) (ℕ × LogFault) → PlayFault → Type 0
NotRead logs Memory = Unit {0}
NotRead logs (Log who fault) = logs ≡ Err (who, fault)
NotRead logs JournalFull = ⊥
NotRead logs (RecordsDisagree who) = ⊥

-- what reading so many logs answers, where this is what they say: each has at most 1,000,000 events
abbrev pub Reads : Result (List (List Event)) (ℕ × LogFault) → ℕ
    → Result (Vec Events) PlayFault → Type 0
Reads logs count (Ok read) = (logs ≡ Ok (map (λ log. log.items) read.items))
    × (length read.items ≡ count)
    × AllByRecursion (λ log. length log.items ≤ most_events) read.items
Reads logs count (Err fault) = NotRead logs fault
