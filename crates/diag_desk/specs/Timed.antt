-- The delays of a run's replies: what is decided of each, in the state that the entries before it make.
use Rattle.std.specs.Prelude.{ℕ, ◌==◌, List, [], ◌∷◌, filter, map}
use Rattle.diag_pdu.specs.declared.step.Step.{Step}
use Rattle.diag_pdu.specs.declared.step.Step.TheVariants.{Request, Ticks}
use Rattle.diag_desk.specs.declared.entry.Entry.{Entry}
use Rattle.diag_desk.specs.Legal.{after_step}
use Rattle.diag_ecu.specs.State.{State}
use Rattle.diag_ecu.specs.Respond as ecu

-- an entry, and how many ticks after its step the reply goes
pub record Timed : Type 0 where
  pub entry : Entry
  pub after : ℕ

-- the delay of the reply to a step: ticks have none
abbrev pub delay_to : State → ℕ → Step → ℕ
delay_to s who (Request request) = ecu.delay s who request.message
delay_to s who (Ticks count) = 0

abbrev pub timed_entry : State → Entry → Timed
timed_entry s e = record { entry = e; after = delay_to s e.who e.step }

abbrev pub timed : State → List Entry → List Timed
timed s [] = []
timed s (e ∷ entries) = timed_entry s e ∷ timed (after_step s e.who e.step) entries

-- those of one tester
abbrev pub own_timed : List Timed → ℕ → List Timed
own_timed entries t = filter (λ x. x.entry.who == t) entries

abbrev pub entries_of : List Timed → List Entry
entries_of entries = map (λ x. x.entry) entries

-- the delay of the last entry, behind one of this delay, and of none before the first
abbrev pub last_after : ℕ → List Timed → ℕ
last_after n [] = n
last_after n (x ∷ entries) = last_after x.after entries

abbrev pub last_delay : List Timed → ℕ
last_delay entries = last_after 0 entries
