-- What is compared, and what the status of `compare` says.
use Rattle.std.specs.Prelude.{◌≡◌, ◌⊎◌, ◌↔◌, ℕ, Bool, true, false, List, [], ◌∷◌, ◌++◌, map, slice_get, slice_index, Option, None}
use Rattle.std.specs.List.{All, AllZip, Any, filter, flat_map}
use Rattle.std.specs.Option.{option_to_list}
use Rattle.diag_pdu.specs.declared.step.Step.{Step}
use Rattle.diag_pdu.specs.declared.step.Step.TheVariants as step
use Rattle.diag_setup.specs.declared.raw.RawSetup.{RawSetup}
use Rattle.diag_tp.specs.Gives.{steps}
use Rattle.diag_ecu.specs.State.{State, opening}
use Rattle.diag_desk.specs.declared.entry.Entry.{Entry}
use Rattle.diag_bus.specs.Events.{events_of}
use Rattle.diag_bus.specs.Text.{run_of}
use Rattle.diag_bus.specs.Verdict.{IsNumber}
use Rattle.diag_exchange.specs.Agreeing.{is_compared}
use Rattle.diag_exchange.specs.Asking.{Course, answer, comes_in, completes, courses}
use Rattle.diag_exchange.specs.Meaning.{IsAnswer, Means}
use Rattle.diag_exchange.specs.Taking.{is_exchange}
use Rattle.diag_exchange.specs.declared.happening.Expected.{Expected}
use Rattle.diag_exchange.specs.declared.happening.Happening.{Happening}
use Rattle.diag_exchange.specs.declared.happening.Heard.{Heard}
use Rattle.diag_exchange.specs.Over.{Over}
use Rattle.diag_exchange.specs.declared.happening.Start.{Start}
use Rattle.diag_expect.specs.Expecting.{entered_of, expected_of, is_ignored}
use Rattle.diag_compare.specs.Compare.{beside, exchanges, open_for, over_by, status}
use Rattle.diag_compare.specs.Expects.{expects}
use Rattle.diag_compare.specs.Hearing.{happenings, in_states, is_of, unit_events, unit_side}

-- a request, apart from where it stands
abbrev pub Question : Type 0
Question = Bool × List ℕ × Expected

abbrev pub question : Course → Question
question c = (c.request.functional, c.request.bytes, c.request.expected)

abbrev pub question_of : Step → Expected → List Question
question_of (step.Request request) expected = (request.functional, request.message, expected) ∷ []
question_of (step.Ticks n) expected = []

abbrev pub entry_question : (State → Entry → Expected) → State × Entry → List Question
entry_question expects e = question_of e.1.step (expects e.0 e.1)

-- the requests of a tester are those of the journal of the run, each with what the server makes of it there
abbrev pub AsksLaw : Type 0
AsksLaw = (expects : State → Entry → Expected) (setup : RawSetup) (lines : List (List ℕ)) (t : ℕ)
    → map question (courses (happenings expects setup t lines))
    ≡ flat_map (entry_question expects) (filter (is_of t) (in_states (opening setup) (run_of setup (events_of setup lines))))

-- ---- the status

module _ (expects : State → Entry → Expected) (setup : RawSetup) (lines : List (List ℕ)) where
  -- to each request of a tester the unit sent the server's reply, but where the request is ignored, for response pending, for
  -- bytes that vary and for the order of records; and it sent nothing unasked
  abbrev pub TesterAgrees : ℕ → Type 0
  TesterAgrees t = All Means (exchanges expects setup lines t)

  -- so of every tester
  abbrev pub AllAgree : Type 0
  AllAgree = (t : ℕ) → IsNumber setup t → TesterAgrees t

  -- of some tester it isn't so
  pub record SomeDiffers : Type 0 where
    pub tester : ℕ
    pub number : IsNumber setup tester
    pub differs : Any (λ o. Means o → ⊥) (exchanges expects setup lines tester)

  -- of some tester the unit sent a message that is compared
  pub record SomeCompared : Type 0 where
    pub tester : ℕ
    pub number : IsNumber setup tester
    pub compared : Any (λ o. is_compared o ≡ true) (exchanges expects setup lines tester)

  -- what a status says: one of these three
  pub record StatusMeans (n : ℕ) : Type 0 where
    pub agree : (n ≡ 0) ↔ (AllAgree × SomeCompared)
    pub differ : (n ≡ 8) ↔ SomeDiffers
    pub nothing : (n ≡ 9) ↔ (AllAgree × (SomeCompared → ⊥))
    pub only : (n ≡ 0) ⊎ ((n ≡ 8) ⊎ (n ≡ 9))

abbrev pub StatusLaw : Type 0
StatusLaw = (expects : State → Entry → Expected) (setup : RawSetup) (lines : List (List ℕ))
    → StatusMeans expects setup lines (status expects setup lines)

-- ---- beside the run

abbrev pub is_request : Step → Bool
is_request (step.Request request) = true
is_request (step.Ticks n) = false

abbrev pub asks_something : State × Entry → Bool
asks_something e = is_request e.1.step

-- the requests of a tester in the one run of the lines, in their order, each with the state before it
abbrev pub run_requests : RawSetup → List (List ℕ) → ℕ → List (State × Entry)
run_requests setup lines t =
    filter asks_something (filter (is_of t) (in_states (opening setup) (run_of setup (events_of setup lines))))

-- The exchange of a request: the unit sent to it this reply of the server's, but for response pending, for bytes that vary and
-- for the order of records; or it is ignored.
abbrev pub StepAnswered : RawSetup → State → ℕ → Step → Option (List ℕ) → Course → Type 0
StepAnswered setup s who (step.Ticks n) reply c = ⊥
StepAnswered setup s who (step.Request request) reply c =
    (c.request.functional ≡ request.functional) × (c.request.bytes ≡ request.message)
    × ((is_ignored setup request.message ≡ true)
    ⊎ IsAnswer (expected_of setup (entered_of s who request reply)) (answer c) reply)

abbrev pub IsAnswered : RawSetup → State × Entry → Course → Type 0
IsAnswered setup e c = StepAnswered setup e.0 e.1.who e.1.step e.1.reply c

-- a tester's exchanges are those of its requests in the run, in their order; each is answered as the run has it, and the unit
-- sent nothing unasked
pub record AnswersRun (setup : RawSetup) (lines : List (List ℕ)) (t : ℕ) : Type 0 where
  pub answered : AllZip (IsAnswered setup) (run_requests setup lines t) (courses (happenings (expects setup) setup t lines))
  pub asked : All (λ o. is_exchange o ≡ true) (exchanges (expects setup) setup lines t)

-- that is what it means that they agree
abbrev pub AnswersLaw : Type 0
AnswersLaw = (setup : RawSetup) (lines : List (List ℕ)) (t : ℕ)
    → TesterAgrees (expects setup) setup lines t ↔ AnswersRun setup lines t

-- ---- what was heard

abbrev pub messages_after : Option Start → List Happening → List Heard
messages_after before [] = []
messages_after before (h ∷ hs) = option_to_list (completes before h) ++ messages_after (comes_in before h) hs

-- the messages that were complete
abbrev pub messages : List Happening → List Heard
messages hs = messages_after None hs

abbrev pub bytes_heard : Heard → List ℕ
bytes_heard m = m.bytes

abbrev pub message_given : Step → List (List ℕ)
message_given (step.Request request) = request.message ∷ []
message_given (step.Ticks n) = []

-- the messages of the unit are what the events of its side give
abbrev pub HeardLaw : Type 0
HeardLaw = (expects : State → Entry → Expected) (setup : RawSetup) (lines : List (List ℕ)) (t : ℕ)
    → map bytes_heard (messages (happenings expects setup t lines))
    ≡ flat_map message_given (steps (unit_side setup t) (unit_events setup t lines))

-- the first frame of a message has its first two bytes
pub record IsHeaded (m : Heard) : Type 0 where
  pub first : m.start.first ≡ slice_index m.bytes 0
  pub second : m.start.second ≡ slice_get m.bytes 1

-- so which request a message fits is told by its own bytes
abbrev pub HeadsLaw : Type 0
HeadsLaw = (expects : State → Entry → Expected) (setup : RawSetup) (lines : List (List ℕ)) (t : ℕ)
    → All IsHeaded (messages (happenings expects setup t lines))

-- ---- what is told

-- what is over for a tester with each of these lines, one behind the other
abbrev pub over_after : (State → Entry → Expected) → RawSetup → ℕ → List (List ℕ) → List (List ℕ) → List (ℕ × Over)
over_after expects setup t past [] = []
over_after expects setup t past (line ∷ lines) =
    over_by expects setup past line t ++ over_after expects setup t (past ++ line ∷ []) lines

-- what is told with each line, and at the end, is each exchange of the tester once
abbrev pub TellsLaw : Type 0
TellsLaw = (expects : State → Entry → Expected) (setup : RawSetup) (lines : List (List ℕ)) (t : ℕ)
    → over_after expects setup t [] lines ++ open_for expects setup lines t
    ≡ map (beside t) (exchanges expects setup lines t)
