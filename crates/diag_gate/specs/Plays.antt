-- What each step on the word tells: of the step, the seat before, the number found and the seat after.
use Rattle.std.specs.Prelude.{◌≡◌, ◌≢◌, ℕ, ◌≤◌, List, [], ◌∷◌, length, Option, Some}
use Rattle.atomic_table.specs.Table.{Me, Step}
use Rattle.diag_desk.specs.Entries.{BeginsWith}
use Rattle.diag_desk.specs.Legal.{Legal, Run}
use Rattle.diag_desk.specs.Timed.{Timed}
use Rattle.diag_desk.specs.declared.entry.Entry.{Entry}
use Rattle.diag_gate.specs.declared.view.View.{View}
use Rattle.diag_gate.specs.Views.{own_in, own_of, holding, missing, letting_go, naming}
use Rattle.diag_gate.specs.Rule.{run}

abbrev pub Sat : Type 0
Sat = Me (Option Run) View

-- the slot's desk has a legal journal that begins with all that was seen, with the own lists of the view, and it goes
-- to the seat
pub record Taken (v : View) (n : Sat) : Type 0 where
  pub journal : List Entry
  pub after : n ≡ (holding v journal, (0, Some (run v.opening journal)) ∷ [])
  pub legal : Legal v.opening journal
  pub begins : BeginsWith journal v.seen
  pub owns : (t : ℕ) (l : List Timed) → own_of v t ≡ Some l → own_in v.opening journal t ≡ l

abbrev pub took : Step (Option Run) → Sat → ℕ → Sat → Type 0
took st m found n = (found ≡ 0 → Taken m.0 n) × (found ≢ 0 → n ≡ (missing m.0, m.1))

-- the desk that the seat has goes back
abbrev pub released : Step (Option Run) → Sat → ℕ → Sat → Type 0
released st m stored n = (d : Run) → m.1 ≡ (0, Some d) ∷ [] → n ≡ (letting_go m.0 d, [])

abbrev pub named : Step (Option Run) → Sat → ℕ → Sat → Type 0
named st m found n = n ≡ (naming m.0 st.first, m.1)

abbrev pub learned : Step (Option Run) → Sat → ℕ → Sat → Type 0
learned st m found n = (n ≡ m) × (length m.0.told ≤ length m.0.seen → BeginsWith m.0.seen m.0.told)
