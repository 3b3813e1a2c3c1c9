-- Lists of entries, by tester, by what was asked and by what was answered.
use Rattle.std.specs.Prelude.{◌≡◌, ℕ, ◌==◌, List, ◌++◌, Option, filter, map}
use Rattle.diag_pdu.specs.declared.step.Request.{Request}
use Rattle.diag_pdu.specs.declared.step.Step.{Step}
use Rattle.diag_pdu.specs.declared.step.Step.TheVariants as step
use Rattle.diag_desk.specs.declared.entry.Entry.{Entry}

abbrev pub entry : ℕ → Step → Option (List ℕ) → Entry
entry who step reply = record { who = who; step = step; reply = reply }

-- the entry of a request
abbrev pub asks : ℕ → Request → Option (List ℕ) → Entry
asks who request reply = entry who (step.Request request) reply

-- the entries of one tester
abbrev pub own : List Entry → ℕ → List Entry
own entries t = filter (λ e. e.who == t) entries

-- what was asked
abbrev pub asked : List Entry → List Step
asked entries = map (λ e. e.step) entries

-- what was asked, each step beside its tester
abbrev pub asked_by : List Entry → List (ℕ × Step)
asked_by entries = map (λ e. (e.who, e.step)) entries

-- what was answered
abbrev pub replies : List Entry → List (Option (List ℕ))
replies entries = map (λ e. e.reply) entries

-- a journal begins with these entries
abbrev pub BeginsWith : List Entry → List Entry → Type 0
BeginsWith journal seen = (more : List Entry) × (journal ≡ seen ++ more)
