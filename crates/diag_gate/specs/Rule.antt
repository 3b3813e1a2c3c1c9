-- The rule of the gate. Its word is 0 where the desk is at home, and 1 where one seat has it.
use Rattle.std.specs.Prelude.{◌≡◌, ◌≢◌, ℕ, ◌<◌, true, List, length, slice_index, Option, Some}
use mathlib.Core.Option.{some}
use mathlib.Core.Option as maybe
use lib.ListN.{get_elem?}
use Rattle.atomic_table.specs.Table.{State as Board}
use Rattle.diag_ecu.specs.State.{State}
use Rattle.diag_desk.specs.Entries.{BeginsWith}
use Rattle.diag_desk.specs.Legal.{Legal, Run}
use Rattle.diag_desk.specs.Timed.{Timed}
use Rattle.diag_desk.specs.declared.entry.Entry.{Entry}
use Rattle.diag_gate.specs.declared.view.View.{View}
use Rattle.diag_gate.specs.Views.{own_in, own_of}

abbrev pub run : State → List Entry → Run
run opening journal = record { opening = opening; journal = journal }

-- The view is right about the journal: it has the one opening, what it has seen begins the journal, and each own list
-- that it has is that tester's entries with the delays of their answers, and no other view has it
pub record Knows (opening : State) (journal : List Entry) (place : ℕ → ℕ) (by : ℕ) (v : View)
    : Type 0 where
  pub opened : v.live ≡ true → v.opening ≡ opening
  pub seen : BeginsWith journal v.seen
  pub told : BeginsWith journal v.told
  pub owns : (t : ℕ) (l : List Timed)
      → own_of v t ≡ Some l
      → (place t ≡ by) × (own_in opening journal t ≡ l)

-- the desk is in its slot, and no view says that it holds it
pub record AtHome (opening : State) (journal : List Entry)
    (homes : List (maybe.Option (Option Run))) (views : List View) : Type 0 where
  pub desk : get_elem? homes 0 ≡ some (some (Some (run opening journal)))
  pub free : (by : ℕ) (v : View) → get_elem? views by ≡ some v → v.holds ≡ true → ⊥

-- just one view says that it holds the slot, a seat's, and it has seen the journal as it was taken
pub record Out (journal : List Entry) (views : List View) : Type 0 where
  pub holder : ℕ
  pub view : View
  pub there : get_elem? views holder ≡ some view
  pub holds : view.holds ≡ true
  pub seen : view.seen ≡ journal
  pub seat : view.is_seat ≡ true
  pub tester : view.who < 9
  pub only : (by : ℕ) (v : View) → get_elem? views by ≡ some v → v.holds ≡ true → by ≡ holder

-- a view has the tester, the one at the tester's place
pub record Placed (place : ℕ → ℕ) (views : List View) (t : ℕ) : Type 0 where
  pub view : View
  pub own : List Timed
  pub there : get_elem? views (place t) ≡ some view
  pub has : own_of view t ≡ Some own

-- there is one legal journal from one opening, of which every view is right, each tester is in a view, and the desk
-- stands for the journal
pub record Kept (s : Board (Option Run) View) : Type 0 where
  pub opening : State
  pub journal : List Entry
  pub place : ℕ → ℕ
  pub one_word : length s.words ≡ 1
  pub legal : Legal opening journal
  pub knows : (by : ℕ) (v : View) → get_elem? s.views by ≡ some v → Knows opening journal place by v
  pub placed : (t : ℕ) → t < 9 → Placed place s.views t
  pub home : slice_index s.words 0 ≡ 0 → AtHome opening journal s.homes s.views
  pub out : slice_index s.words 0 ≢ 0 → Out journal s.views
