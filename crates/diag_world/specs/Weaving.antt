-- How the testers' events interleave, and which interleaving a journal is the run of.
use Rattle.std.specs.Prelude.{◌≡◌, ℕ, zero, suc, max, ◌+◌, ◌==◌, if◌then◌else◌, is_some, List, [], ◌∷◌, ◌++◌, map, drop, length}
use Rattle.std.specs.Option.{option_to_list}
use Rattle.diag_can.specs.Event.{Event}
use Rattle.diag_pdu.specs.declared.step.Step.{Step}
use Rattle.diag_pdu.specs.declared.setup.LinkSetup.{LinkSetup}
use Rattle.diag_desk.specs.declared.entry.Entry.{Entry}
use Rattle.diag_tp.specs.Gives.{gives, steps}
use Rattle.diag_desk.specs.Entries.{own, asked, asked_by}

-- the items of one tester, of items that each stand beside their tester
abbrev pub items_of : {X : Type 0} → List (ℕ × X) → ℕ → List X
items_of [] t = []
items_of (p ∷ ps) t = if p.0 == t then p.1 ∷ items_of ps t else items_of ps t

-- the items, each beside one tester
abbrev pub all_by : {X : Type 0} → ℕ → List X → List (ℕ × X)
all_by t xs = map (λ x. (t, x)) xs

-- what further events of the testers give, after those of the past, each step beside its tester
abbrev pub steps_of_after : (ℕ → LinkSetup) → List (ℕ × Event) → List (ℕ × Event) → List (ℕ × Step)
steps_of_after links past [] = []
steps_of_after links past (m ∷ ms) =
    all_by m.0 (option_to_list (gives (links m.0) (items_of past m.0) m.1))
    ++ steps_of_after links (past ++ m ∷ []) ms

-- what the testers' events give, in order. `links` has the settings of each tester's link
abbrev pub steps_of : (ℕ → LinkSetup) → List (ℕ × Event) → List (ℕ × Step)
steps_of links ms = steps_of_after links [] ms

-- the log of a tester, where the first log is that of tester n
abbrev pub log_at : ℕ → List (List Event) → ℕ → List Event
log_at n [] t = []
log_at n (log ∷ logs) t = if n == t then log else log_at (n + 1) logs t

-- the log of a tester. Testers are counted from 1, and no other has events
abbrev pub log_of : List (List Event) → ℕ → List Event
log_of logs t = log_at 1 logs t

-- the testers' events in one list, the events of each tester in the order of its log
abbrev pub IsInterleaving : List (ℕ × Event) → List (List Event) → Type 0
IsInterleaving ms logs = (t : ℕ) → items_of ms t ≡ log_of logs t

-- the first event of each log
abbrev pub first_of_each : ℕ → List (List Event) → List (ℕ × Event)
first_of_each n [] = []
first_of_each n ([] ∷ logs) = first_of_each (n + 1) logs
first_of_each n ((e ∷ es) ∷ logs) = (n, e) ∷ first_of_each (n + 1) logs

-- the length of the longest log
abbrev pub longest : List (List Event) → ℕ
longest [] = 0
longest (log ∷ logs) = max (length log) (longest logs)

-- so many rounds, in each of which each log that has not ended gives one event
abbrev pub rounds : ℕ → List (List Event) → List (ℕ × Event)
rounds zero logs = []
rounds (suc k) logs = first_of_each 1 logs ++ rounds k (map (drop 1) logs)

-- one event of each log in turn, ended logs being skipped
abbrev pub turns : List (List Event) → List (ℕ × Event)
turns logs = rounds (longest logs) logs

-- of the events after those of the past, those up to and with the first that gives a step
abbrev pub until_step : LinkSetup → List Event → List Event → List Event
until_step s past [] = []
until_step s past (e ∷ es) =
    e ∷ (if is_some (gives s past e) then [] else until_step s (past ++ e ∷ []) es)

-- what is left of a log after the events that were taken
abbrev pub left_of : List Event → List Event → List Event
left_of taken log = drop (length taken) log

-- what is left of each log, in the testers' order, where the first log is that of tester n
abbrev pub leftovers : List (ℕ × Event) → ℕ → List (List Event) → List (ℕ × Event)
leftovers past n [] = []
leftovers past n (log ∷ logs) =
    all_by n (left_of (items_of past n) log) ++ leftovers past (n + 1) logs

-- the events of one tester that are next taken for a step
abbrev pub taken_for : (ℕ → LinkSetup) → List (ℕ × Event) → ℕ → List (List Event) → List (ℕ × Event)
taken_for links past t logs =
    all_by t (until_step (links t) (items_of past t) (left_of (items_of past t) (log_of logs t)))

-- for each entry, the events of its tester not yet taken, up to and with the one that gives it; at the end all that are
-- left
abbrev pub weave_after : (ℕ → LinkSetup) → List (ℕ × Event) → List Entry → List (List Event)
    → List (ℕ × Event)
weave_after links past [] logs = leftovers past 1 logs
weave_after links past (k ∷ ks) logs =
    taken_for links past k.who logs
    ++ weave_after links (past ++ taken_for links past k.who logs) ks logs

-- the interleaving of the logs whose run the journal is
abbrev pub weave : (ℕ → LinkSetup) → List Entry → List (List Event) → List (ℕ × Event)
weave links journal logs = weave_after links [] journal logs

-- each tester's entries ask what its log gives, and no other tester has an entry
abbrev pub AsksItsLog : (ℕ → LinkSetup) → List Entry → List (List Event) → Type 0
AsksItsLog links journal logs = (t : ℕ) → asked (own journal t) ≡ steps (links t) (log_of logs t)

-- each tester's steps in an interleaving are those of its own events
abbrev pub InterleavingLaw : Type 0
InterleavingLaw =
    (links : ℕ → LinkSetup) (ms : List (ℕ × Event)) (t : ℕ)
    → items_of (steps_of links ms) t ≡ steps (links t) (items_of ms t)

-- what one event of each log in turn makes is an interleaving
abbrev pub TurnsLaw : Type 0
TurnsLaw = (logs : List (List Event)) → IsInterleaving (turns logs) logs

-- a journal in which each tester asks what its log gives is the run of an interleaving of the logs
abbrev pub WeavingLaw : Type 0
WeavingLaw =
    (links : ℕ → LinkSetup) (journal : List Entry) (logs : List (List Event))
    → AsksItsLog links journal logs
    → IsInterleaving (weave links journal logs) logs
    × (steps_of links (weave links journal logs) ≡ asked_by journal)
