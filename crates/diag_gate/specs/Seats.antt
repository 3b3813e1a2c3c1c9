-- What contracts see of a seat, of the host and of a door over a lock, and what each call leaves.
use Rattle.std.specs.Prelude.{◌≡◌, ℕ, ◌+◌, ◌<◌, Bool, true, false, List, [], ◌∷◌, ◌++◌, length, replicate, slice_index_or, slice_set, Option, Some, None, is_some, Result, Ok, Err}
use Rattle.diag_desk.specs.Entry.{most_entries}
use Rattle.atomic_table.specs.Table.{Me}
use Rattle.atomic_table.specs.Seated.{TableId}
use Rattle.diag_ecu.specs.State.{State}
use Rattle.diag_desk.specs.Entries.{BeginsWith, entry}
use Rattle.diag_desk.specs.Legal.{Legal, Run, after}
use Rattle.diag_desk.specs.Timed.{Timed, timed_entry}
use Rattle.diag_pdu.specs.declared.step.Step.{Step}
use Rattle.diag_desk.specs.declared.desk.StepFault.{StepFault}
use Rattle.diag_desk.specs.declared.desk.StepFault.TheVariants.{Memory, JournalFull}
use Rattle.diag_desk.specs.declared.entry.Entry.{Entry}
use Rattle.diag_gate.specs.declared.view.View.{View}
use Rattle.diag_gate.specs.declared.fault.TryFault.{TryFault}
use Rattle.diag_gate.specs.declared.gate.Place.{Place}
use Rattle.diag_gate.specs.declared.fault.TryFault.TheVariants.{Memory as TryMemory, JournalFull as TryFull, Busy}
use Rattle.diag_gate.specs.Views.{own_in, owns_from, host_view, seat_view, holding, longer, shorter}
use Rattle.diag_gate.specs.Rule.{run}

-- a seat: its gate and tester, the opening, its own entries with the delays of their answers, the journal that it has seen, and
-- how long after its request the answer of its last step goes, 0 before the first
pub record SeatView : Type 0 where
  pub gate : TableId
  pub who : ℕ
  pub opening : State
  pub own : List Timed
  pub seen : List Entry
  pub delay : ℕ
  pub missed : ℕ

-- the host: its gate, the opening, the journal that it has seen, the own entries of each tester that is with it, and
-- the testers that it has given out before
pub record HostView : Type 0 where
  pub gate : TableId
  pub opening : State
  pub seen : List Entry
  pub owns : List (Option (List Timed))
  pub given : List Bool

-- a door over a lock: its tester, the entries that it has answered, each with the delay of its answer, and that of the last step
pub record LockView : Type 0 where
  pub who : ℕ
  pub given : List Timed
  pub delay : ℕ

abbrev pub of_host : HostView → ℕ → Option (List Timed)
of_host h t = slice_index_or h.owns t None

abbrev pub was_given : HostView → ℕ → Bool
was_given h t = slice_index_or h.given t false

-- the host of a new gate over a desk: every tester is with it, with the entries that the desk's journal has of it
abbrev pub new_host : TableId → Run → HostView
new_host gate desk = record {
  gate = gate;
  opening = desk.opening;
  seen = desk.journal;
  owns = owns_from 0 9 desk;
  given = replicate 9 false;
}

-- each tester is with the host
abbrev pub AllHome : HostView → Type 0
AllHome h = (t : ℕ) → t < 9 → is_some (of_host h t) ≡ true

-- the host without the tester, whom it has given out
abbrev pub gave : HostView → ℕ → HostView
gave h t = record h { owns = slice_set h.owns t None; given = slice_set h.given t true }

abbrev pub fresh : HostView → ℕ → List Timed → SeatView
fresh h t own =
    record { gate = h.gate; who = t; opening = h.opening; own = own; seen = h.seen; delay = 0; missed = 0 }

-- a tester that was not given out before goes to a new seat, which begins with what the host has seen and the tester's
-- entries
pub record Gave (h n : HostView) (t : ℕ) (s : SeatView) : Type 0 where
  pub mine : List Timed
  pub before : was_given h t ≡ false
  pub had : of_host h t ≡ Some mine
  pub seat : s ≡ fresh h t mine
  pub host : n ≡ gave h t

-- the host has the seat's own list, and has seen the longer of what the two had seen, which begins with the shorter
pub record Joined (h n : HostView) (s : SeatView) : Type 0 where
  pub host : n
      ≡ record h { owns = slice_set h.owns s.who (Some s.own); seen = longer h.seen s.seen }
  pub begins : BeginsWith n.seen (shorter h.seen s.seen)

-- the desk at the end
pub record Closed (h : HostView) (d : Run) : Type 0 where
  pub opening : d.opening ≡ h.opening
  pub legal : Legal h.opening d.journal
  pub begins : BeginsWith d.journal h.seen
  pub owns : (t : ℕ) (l : List Timed) → of_host h t ≡ Some l → own_in d.opening d.journal t ≡ l

-- the journal that was found, which begins with all that the seat had seen, and has as the seat's entries its own list
pub record Finds (s n : SeatView) : Type 0 where
  pub seat : n ≡ record s { seen = n.seen }
  pub legal : Legal s.opening n.seen
  pub begins : BeginsWith n.seen s.seen
  pub entries : own_in s.opening n.seen s.who ≡ s.own

-- the seat with an entry more behind the journal that was found, and its delay in the state that this journal makes
abbrev pub with_entry : SeatView → List Entry → Timed → SeatView
with_entry s found x = record s {
  own = s.own ++ x ∷ [];
  seen = found ++ x.entry ∷ [];
  delay = x.after;
}

-- the seat's step was entered behind a journal that was found
pub record Enters (s n : SeatView) (e : Entry) : Type 0 where
  pub found : List Entry
  pub begins : BeginsWith found s.seen
  pub seat : n ≡ with_entry s found (timed_entry (after s.opening found) e)
  pub legal : Legal s.opening n.seen
  pub entries : own_in s.opening n.seen s.who ≡ n.own

abbrev pub misses : SeatView → SeatView
misses s = record s { missed = s.missed + 1 }

-- the seat after any number of takes that found the word taken
abbrev pub waited : SeatView → ℕ → SeatView
waited s n = record s { missed = n }

-- the step was entered, with this reply
abbrev pub Answered : SeatView → SeatView → Step → Option (List ℕ) → Type 0
Answered s n step reply = Enters s n (entry s.who step reply)

-- the journal is full exactly where that is the fault
abbrev pub IsFull : SeatView → StepFault → Type 0
IsFull s Memory = length s.seen < most_entries
IsFull s JournalFull = length s.seen ≡ most_entries

-- the step was refused: the seat has seen the journal that was found, and nothing was entered
abbrev pub Refused : SeatView → SeatView → StepFault → Type 0
Refused s n fault = Finds s n × IsFull n fault

-- the word was found taken, and the step comes back; or the step was refused
abbrev pub NotMade : SeatView → SeatView → Step → TryFault → Type 0
NotMade s n step TryMemory = Refused s n Memory
NotMade s n step TryFull = Refused s n JournalFull
NotMade s n step (Busy back) = (back ≡ step) × (n ≡ misses s)

-- the answer to a step that was tried
abbrev pub as_tried : Result (Option (List ℕ)) StepFault → Result (Option (List ℕ)) TryFault
as_tried (Ok reply) = Ok reply
as_tried (Err Memory) = Err TryMemory
as_tried (Err JournalFull) = Err TryFull

-- What stands behind these in the table

-- what a contract sees of a seat's place
abbrev pub seat_as : TableId → ℕ → ℕ → Me (Option Run) View → SeatView
seat_as z who delay me = record {
  gate = z;
  who = who;
  opening = me.0.opening;
  own = me.0.own;
  seen = me.0.seen;
  delay = delay;
  missed = me.0.missed;
}

abbrev pub seat_of : ℕ → Place → SeatView
seat_of who place = seat_as place.spot.table_id who place.after_ms place.spot.me

-- a seat's place holds no slot
pub record IsSeat (who : ℕ) (me : Me (Option Run) View) : Type 0 where
  pub is : me ≡ (seat_view me.0.opening who me.0.own me.0.seen me.0.missed, [])
  pub place : who < 9

-- a seat's place that holds the slot, whose desk was taken out
pub record IsGuard (who : ℕ) (me : Me (Option Run) View) (d : Run) : Type 0 where
  pub is : me
      ≡ (holding (seat_view me.0.opening who me.0.own [] me.0.missed) me.0.seen, (0, None) ∷ [])
  pub place : who < 9
  pub desk : d ≡ run me.0.opening me.0.seen
  pub entries : own_in me.0.opening me.0.seen who ≡ me.0.own

pub record IsHost (me : Me (Option Run) View) (given home : List Bool) : Type 0 where
  pub is : me ≡ (host_view me.0.opening me.0.seen me.0.owns me.0.told me.0.who, [])
  pub wide : (length me.0.owns ≡ 9) × (length given ≡ 9) × (length home ≡ 9)
  pub here : (t : ℕ)
      → t < 9
      → slice_index_or home t false ≡ is_some (slice_index_or me.0.owns t None)
  pub left : (t : ℕ)
      → t < 9
      → slice_index_or given t false ≡ false
      → slice_index_or home t false ≡ true
