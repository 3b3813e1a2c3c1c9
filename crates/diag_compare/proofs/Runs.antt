-- The exchanges of a tester beside the run.
use Rattle.std.proofs.Common.{◌≡◌, ◌⊎◌, ℕ, Bool, true, false, List, [], ◌∷◌, ◌++◌, map, refl, ap, subst, sym}
use Rattle.std.proofs.lemmas.List.Elements.{All-cons, All-filter, All-head, All-map, All-nil, All-tail, All-weaker}
use Rattle.std.proofs.lemmas.List.Sorted.{All-permutation, IsPermutation-sym}
use Rattle.std.specs.List.{All, AllZip, filter, flat_map}
use Rattle.std.specs.Prelude.{if◌then◌else◌}
use Rattle.diag_pdu.specs.declared.step.Step.{Step}
use Rattle.diag_pdu.specs.declared.step.Step.TheVariants as step
use Rattle.diag_setup.specs.declared.raw.RawSetup.{RawSetup}
use Rattle.diag_ecu.specs.State.{State, opening}
use Rattle.diag_desk.specs.declared.entry.Entry.{Entry}
use Rattle.diag_bus.specs.Events.{events_of}
use Rattle.diag_bus.specs.Text.{run_of}
use Rattle.diag_exchange.specs.Asking.{Course, answer, courses}
use Rattle.diag_exchange.specs.Exchanges.{exchange}
use Rattle.diag_exchange.specs.Meaning.{IsAnswer, Means}
use Rattle.diag_exchange.specs.Over.{Over, Exchange, Unasked}
use Rattle.diag_exchange.specs.Taking.{is_exchange}
use Rattle.diag_exchange.specs.declared.happening.Expected.{Expected}
use Rattle.diag_exchange.proofs.Once.{told_once}
use Rattle.diag_compare.specs.Compare.{exchanges}
use Rattle.diag_compare.specs.Expects.{expects, step_expects}
use Rattle.diag_compare.specs.Hearing.{happenings, in_states, is_of}
use Rattle.diag_compare.specs.Meaning.{AnswersRun, IsAnswered, Question, StepAnswered, TesterAgrees, asks_something, entry_question, is_request, question, question_of}
use Rattle.diag_compare.proofs.Questions.{asked_are}

-- ---- lists

abbrev head_or : Question → List Question → Question
head_or q [] = q
head_or q (r ∷ rs) = r

abbrev rest_of : List Question → List Question
rest_of [] = []
rest_of (r ∷ rs) = rs

-- ---- an exchange beside its entry

abbrev AnswersAs : Expected → Course → Type 0
AnswersAs expected c = (expected.ignored ≡ true) ⊎ IsAnswer expected (answer c) expected.reply

abbrev AllMean : List Course → Type 0
AllMean cs = All (λ c. Means (exchange c)) cs

module _ (setup : RawSetup) where
  abbrev Zipped : List (State × Entry) → List Course → Type 0
  Zipped es cs = AllZip (IsAnswered setup) es cs

  abbrev asked_by : List (State × Entry) → List Question
  asked_by es = flat_map (entry_question (expects setup)) es

  module _ (s : State) (e : Entry) (es : List (State × Entry)) where
    -- the entries that ask, where this one has the step x
    abbrev those : Step → List (State × Entry)
    those x = if is_request x then (s, e) ∷ filter asks_something es else filter asks_something es

    abbrev questions_by : Step → List Question
    questions_by x = question_of x (step_expects setup s e.who x e.reply) ++ asked_by es

    zip_step : (x : Step) → x ≡ e.step → (cs : List Course) → map question cs ≡ questions_by x → AllMean cs
        → ((ds : List Course) → map question ds ≡ asked_by es → AllMean ds → Zipped (filter asks_something es) ds)
        → Zipped (those x) cs
    zip_step (step.Ticks n) is cs same all rest = rest cs same all
    zip_step (step.Request r) is [] same all rest = cc
    zip_step (step.Request r) is (c ∷ cs) same all rest =
        let asked = ap (head_or (question c)) same in
        let own = All-head (λ c. Means (exchange c)) c cs all in (
          subst (λ (x : Step). StepAnswered setup s e.who x e.reply c) is
              (ap (λ q. q.0) asked, ap (λ q. q.1) asked, subst (λ (expected : Expected). AnswersAs expected c) (ap (λ q. q.2) asked) own),
          rest cs (ap rest_of same) (All-tail (λ c. Means (exchange c)) c cs all),
        )

    mean_step : (x : Step) → x ≡ e.step → (cs : List Course) → map question cs ≡ questions_by x → Zipped (those x) cs
        → ((ds : List Course) → map question ds ≡ asked_by es → Zipped (filter asks_something es) ds → AllMean ds)
        → AllMean cs
    mean_step (step.Ticks n) is cs same zipped rest = rest cs same zipped
    mean_step (step.Request r) is [] same zipped rest = cc
    mean_step (step.Request r) is (c ∷ cs) same zipped rest =
        let asked = ap (head_or (question c)) same in
        let own = subst (λ (x : Step). StepAnswered setup s e.who x e.reply c) (sym is) zipped.0 in
        All-cons (λ c. Means (exchange c)) c cs (subst (λ (expected : Expected). AnswersAs expected c) (sym (ap (λ q. q.2) asked)) own.2)
        (rest cs (ap rest_of same) zipped.1)

  zip : (es : List (State × Entry)) (cs : List Course) → map question cs ≡ asked_by es → AllMean cs → Zipped (filter asks_something es) cs
  zip [] [] same all = tt
  zip [] (c ∷ cs) same all = cc
  zip (e ∷ es) cs same all = zip_step e.0 e.1 es e.1.step refl cs same all (λ ds. zip es ds)

  mean : (es : List (State × Entry)) (cs : List Course) → map question cs ≡ asked_by es → Zipped (filter asks_something es) cs → AllMean cs
  mean [] [] same zipped = All-nil (λ c. Means (exchange c))
  mean [] (c ∷ cs) same zipped = cc
  mean (e ∷ es) cs same zipped = mean_step e.0 e.1 es e.1.step refl cs same zipped (λ ds. mean es ds)

-- ---- all exchanges, and those of requests

is_asked : (o : Over) → Means o → is_exchange o ≡ true
is_asked (Exchange request pendings answer) m = refl
is_asked (Unasked heard) m = absurd m

of_map : (cs : List Course) → All Means (map exchange cs) → AllMean cs
of_map [] h = All-nil (λ c. Means (exchange c))
of_map (c ∷ cs) h = All-cons (λ c. Means (exchange c)) c cs (All-head Means (exchange c) (map exchange cs) h) (of_map cs (All-tail Means (exchange c) (map exchange cs) h))

unfiltered_one : (o : Over) (os : List Over) (b : Bool) → b ≡ true → (All Means (filter is_exchange os) → All Means os)
    → All Means (if b then o ∷ filter is_exchange os else filter is_exchange os) → All Means (o ∷ os)
unfiltered_one o os true is rest h = All-cons Means o os (All-head Means o (filter is_exchange os) h) (rest (All-tail Means o (filter is_exchange os) h))
unfiltered_one o os false is rest h = cc

unfiltered : (os : List Over) → All (λ o. is_exchange o ≡ true) os → All Means (filter is_exchange os) → All Means os
unfiltered [] asked h = All-nil Means
unfiltered (o ∷ os) asked h =
    unfiltered_one o os (is_exchange o) (All-head (λ o. is_exchange o ≡ true) o os asked)
    (unfiltered os (All-tail (λ o. is_exchange o ≡ true) o os asked)) h

module _ (setup : RawSetup) (lines : List (List ℕ)) (t : ℕ) where
  abbrev told : List Over
  told = exchanges (expects setup) setup lines t

  abbrev asked : List Course
  asked = courses (happenings (expects setup) setup t lines)

  abbrev entries : List (State × Entry)
  entries = filter (is_of t) (in_states (opening setup) (run_of setup (events_of setup lines)))

  pub agrees_answers : TesterAgrees (expects setup) setup lines t → AnswersRun setup lines t
  agrees_answers all = record {
    answered = zip setup entries asked (asked_are (expects setup) setup t lines)
        (of_map asked (All-permutation Means (filter is_exchange told) (map exchange asked)
        (IsPermutation-sym (map exchange asked) (filter is_exchange told) (told_once (happenings (expects setup) setup t lines)))
        (All-filter is_exchange Means told all)));
    asked = All-weaker Means (λ o. is_exchange o ≡ true) is_asked told all;
  }

  pub answers_agree : AnswersRun setup lines t → TesterAgrees (expects setup) setup lines t
  answers_agree h = unfiltered told h.asked
      (All-permutation Means (map exchange asked) (filter is_exchange told) (told_once (happenings (expects setup) setup t lines))
      (All-map Means exchange asked (mean setup entries asked (asked_are (expects setup) setup t lines) h.answered)))
