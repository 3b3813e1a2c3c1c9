-- Legal runs of the sequential server.
use Rattle.std.specs.Prelude.{◌≡◌, ℕ, Bool, true, false, List, [], ◌∷◌, ◌++◌, Option, None}
use Rattle.diag_pdu.specs.declared.step.Step.{Step}
use Rattle.diag_pdu.specs.declared.step.Step.TheVariants.{Request, Ticks}
use Rattle.diag_desk.specs.declared.entry.Entry.{Entry}
use Rattle.diag_desk.specs.Entries.{BeginsWith}
use Rattle.diag_setup.specs.declared.raw.RawSetup.{RawSetup}
use Rattle.diag_setup.specs.Setup.{IsSetup}
use Rattle.diag_ecu.specs.State.{State, opening}
use Rattle.diag_ecu.specs.Elapse.{elapse}
use Rattle.diag_ecu.specs.Respond as ecu

abbrev pub is_ticks : Step → Bool
is_ticks (Request request) = false
is_ticks (Ticks count) = true

-- the state after a step of a tester
abbrev pub after_step : State → ℕ → Step → State
after_step s who (Request request) = ecu.after_request s who request.message
after_step s who (Ticks count) = elapse s who count

-- the reply to a step: ticks have none
abbrev pub reply_to : State → ℕ → Step → Option (List ℕ)
reply_to s who (Request request) = ecu.reply s who request.functional request.message
reply_to s who (Ticks count) = None

-- the last state of a run
abbrev pub after : State → List Entry → State
after s [] = s
after s (e ∷ entries) = after (after_step s e.who e.step) entries

-- each reply is the server's, in the state that the entries before it make
abbrev pub Legal : State → List Entry → Type 0
Legal s [] = Unit {0}
Legal s (e ∷ entries) =
    (e.reply ≡ reply_to s e.who e.step) × Legal (after_step s e.who e.step) entries

-- the state is the one that some checked setup opens with
unfoldable pub IsOpening : State → Type 0
IsOpening s = (setup : RawSetup) × IsSetup setup × (s ≡ opening setup)

-- a desk: the state that it was opened with, and its journal
pub record Run : Type 0 where
  pub opening : State
  pub journal : List Entry

-- the same desk, with one entry more
abbrev pub entered : Run → Entry → Run
entered r e = record { opening = r.opening; journal = r.journal ++ e ∷ [] }

-- a prefix of a legal journal is legal
abbrev pub LegalPrefixLaw : Type 0
LegalPrefixLaw = (s : State) (journal seen : List Entry)
    → BeginsWith journal seen
    → Legal s journal
    → Legal s seen
