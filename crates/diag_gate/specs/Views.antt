-- Views, as plain data: the host's, a seat's, and how one becomes another.
use Rattle.std.specs.Prelude.{◌≡◌, ℕ, zero, suc, ◌+◌, ◌==◌, nat_le, Bool, true, false, if◌then◌else◌, List, [], ◌∷◌, ◌++◌, length, slice_index_or, slice_set, Option, Some, None}
use Rattle.diag_ecu.specs.State.{State, blank}
use Rattle.diag_pdu.specs.declared.step.Step.{Step}
use Rattle.diag_pdu.specs.declared.step.Step.TheVariants.{Request, Ticks}
use Rattle.diag_desk.specs.Entries.{entry}
use Rattle.diag_desk.specs.Legal.{IsOpening, Legal, Run, after}
use Rattle.diag_desk.specs.Timed.{Timed, delay_to, own_timed, timed}
use Rattle.diag_desk.specs.declared.entry.Entry.{Entry}
use Rattle.diag_gate.specs.declared.view.View.{View}

-- the journal is a legal run from the opening
abbrev pub IsLegal : Run → Type 0
IsLegal r = Legal r.opening r.journal

-- the reply is what the server answers behind some legal journal, from the opening of some checked setup, and the delay is how
-- long after the request it goes there
pub record IsLawful (who : ℕ) (step : Step) (reply : Option (List ℕ)) (delay : ℕ) : Type 0 where
  pub desk : Run
  pub opened : IsOpening desk.opening
  pub legal : Legal desk.opening (desk.journal ++ entry who step reply ∷ [])
  pub told : delay ≡ delay_to (after desk.opening desk.journal) who step

-- ticks have no delay
abbrev pub HasNoDelay : Step → ℕ → Type 0
HasNoDelay (Request request) delay = Unit {0}
HasNoDelay (Ticks count) delay = delay ≡ 0

-- the entry of a tester's step, with the delay of its answer
abbrev pub timed_answer : ℕ → Step → Option (List ℕ) → ℕ → Timed
timed_answer who step reply delay = record { entry = entry who step reply; after = delay }

-- entries, each with its delay
abbrev pub timed_by : List Entry → List ℕ → List Timed
timed_by [] delays = []
timed_by (e ∷ entries) [] = []
timed_by (e ∷ entries) (n ∷ delays) = record { entry = e; after = n } ∷ timed_by entries delays

-- the entries that a tester has in a journal, each with the delay of its answer
abbrev pub own_in : State → List Entry → ℕ → List Timed
own_in opening journal t = own_timed (timed opening journal) t

-- the own list of a tester, if the view has that tester: a seat has its own, the host those that are with it
abbrev pub own_if : Bool → ℕ → List Timed → List (Option (List Timed)) → ℕ → Option (List Timed)
own_if true who own owns t = if t == who then Some own else None
own_if false who own owns t = slice_index_or owns t None

abbrev pub own_of : View → ℕ → Option (List Timed)
own_of v t = own_if v.is_seat v.who v.own v.owns t

-- the own list of each of n testers from the place k on
abbrev pub owns_from : ℕ → ℕ → Run → List (Option (List Timed))
owns_from k zero r = []
owns_from k (suc n) r = Some (own_in r.opening r.journal k) ∷ owns_from (suc k) n r

abbrev pub host_view : State → List Entry → List (Option (List Timed)) → List Entry → ℕ → View
host_view opening seen owns told who =
    record {
      live = true;
      opening = opening;
      seen = seen;
      told = told;
      is_seat = false;
      who = who;
      own = [];
      owns = owns;
      holds = false;
      missed = 0;
    }

abbrev pub seat_view : State → ℕ → List Timed → List Entry → ℕ → View
seat_view opening who own seen missed =
    record {
      live = true;
      opening = opening;
      seen = seen;
      told = [];
      is_seat = true;
      who = who;
      own = own;
      owns = [];
      holds = false;
      missed = missed;
    }

abbrev pub starting : Run → View
starting r = host_view r.opening r.journal (owns_from 0 9 r) [] 0

-- the seat that has the slot
abbrev pub holding : View → List Entry → View
holding v journal = record v { seen = journal; holds = true }

abbrev pub missing : View → View
missing v = record v { missed = v.missed + 1 }

-- the seat that has put the slot back
abbrev pub letting_go : View → Run → View
letting_go v d = record v { seen = d.journal; own = own_in d.opening d.journal v.who; holds = false }

abbrev pub naming : View → ℕ → View
naming v t = record v { who = t }

abbrev pub listed : Option (List Timed) → List Timed
listed (Some l) = l
listed None = []

-- the host gives the tester that it named to a new seat
abbrev pub host_without : View → View
host_without v = record v { owns = slice_set v.owns v.who None }

abbrev pub new_seat : View → View
new_seat v = seat_view v.opening v.who (listed (own_of v v.who)) v.seen 0

abbrev pub longer : List Entry → List Entry → List Entry
longer xs ys = if nat_le (length xs) (length ys) then ys else xs

abbrev pub shorter : List Entry → List Entry → List Entry
shorter xs ys = if nat_le (length xs) (length ys) then xs else ys

-- the host takes a seat in
abbrev pub host_with : View → View → View
host_with v w = record v {
  seen = longer v.seen w.seen;
  told = shorter v.seen w.seen;
  owns = slice_set v.owns w.who (Some w.own);
}

abbrev pub spent : View
spent = record {
  live = false;
  opening = blank;
  seen = [];
  told = [];
  is_seat = false;
  who = 0;
  own = [];
  owns = [];
  holds = false;
  missed = 0;
}
