-- What a crew of workers does: for each tester what one worker does.
use Rattle.std.specs.Prelude.{◌≡◌, ℕ, List, [], ◌∷◌, Option}
use Rattle.atomic_table.specs.Seated.{TableId}
use Rattle.diag_can.specs.Event.{Event}
use Rattle.diag_pdu.specs.declared.setup.LinkSetup.{LinkSetup}
use Rattle.diag_desk.specs.declared.entry.Entry.{Entry}
use Rattle.diag_desk.specs.Timed.{Timed}
use Rattle.diag_port.specs.declared.pace.Pace.{Pace}
use Rattle.diag_workers.specs.Work.{PlayedLog}
use Rattle.diag_workers.specs.declared.working.WorkerRecord.{WorkerRecord}

-- A worker played a log through a door, which comes back as that tester's door of the same gate: the door has answered
-- what the record keeps, which is what the log asks for its tester, and the record's frames are those of its replies.
pub record Worked {D K : Type 0} (links : ℕ → LinkSetup) (pace : Pace) (tester_of : D → ℕ)
    (given_of : D → List Timed) (home_of : D → Option TableId) (keeps : K → List Entry → Type 0)
    (log : List Event) (door : D) (done : WorkerRecord K) (door' : D) : Type 0 where
  pub played : PlayedLog (links (tester_of door)) pace (tester_of door) log (given_of door) (given_of door')
      done.sent.items (keeps done.entries)
  pub tester : tester_of door' ≡ tester_of door
  pub home : home_of door' ≡ home_of door

-- each log was played through its door
abbrev pub AllWorked : {D K : Type 0} → (ℕ → LinkSetup) → Pace → (D → ℕ) → (D → List Timed)
    → (D → Option TableId) → (K → List Entry → Type 0) → List (List Event) → List D
    → List (WorkerRecord K × D) → Type 0
AllWorked links pace tester given home keeps [] [] [] = Unit {0}
AllWorked links pace tester given home keeps (log ∷ logs) (door ∷ doors) (r ∷ rs) =
    Worked links pace tester given home keeps log door r.0 r.1
    × AllWorked links pace tester given home keeps logs doors rs
AllWorked links pace tester given home keeps [] [] (r ∷ rs) = ⊥
AllWorked links pace tester given home keeps [] (door ∷ doors) rs = ⊥
AllWorked links pace tester given home keeps (log ∷ logs) [] rs = ⊥
AllWorked links pace tester given home keeps (log ∷ logs) (door ∷ doors) [] = ⊥
