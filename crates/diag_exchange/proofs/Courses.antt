-- A request and what became of it, with a happening more.
use Rattle.std.proofs.Common.{length-append, ◌≡◌, ℕ, ◌+◌, Bool, true, false, Option, Some, None, List, [], ◌∷◌, ◌++◌, length, refl, ap, ap₂, sym, ◌∙◌, arith}
use Rattle.std.proofs.lemmas.List.Elements.{filter-append}
use Rattle.std.proofs.lemmas.List.Folds.{find-append, list_any-append}
use Rattle.std.specs.List.{filter, find, list_any}
use Rattle.std.specs.Option.{option_or}
use Rattle.std.specs.Prelude.{cond, if◌then◌else◌, ◌||◌, ◌&&◌, not, is_some}
use Rattle.diag_exchange.specs.declared.happening.Heard.{Heard}
use Rattle.diag_exchange.specs.declared.happening.AskedRequest.{AskedRequest}
use Rattle.diag_exchange.specs.declared.happening.Start.{Start}
use Rattle.diag_exchange.specs.declared.open.Open.{Open}
use Rattle.diag_exchange.specs.Asking.{Behind, Course, and_behind, answer, asked, fits, hearing, hears_it, hears_no_more, is_answered, is_candidate, is_final, is_pending, is_replaced, replaced_by, replaces, with_answer}
use Rattle.diag_exchange.specs.Exchanges.{closes, is_closed, is_over, pendings}
use Rattle.diag_exchange.specs.Streaming.{is_done, kept}
use Rattle.diag_exchange.specs.Streaming as streaming
use Rattle.diag_exchange.proofs.Lists.{and_true, not_true, or_false}

abbrev pub was_answered : Behind → Bool
was_answered b = b.answered

-- one that was answered is; and no message is coming in that would answer it
pub record IsSound (c : Course) : Type 0 where
  pub stays : list_any was_answered c.behind ≡ true → is_answered c ≡ true
  pub quiet : c.hears ≡ true → is_answered c ≡ false

-- ---- booleans

any_or : {X : Type 0} (p q : X → Bool) (xs : List X) → list_any (λ x. p x || q x) xs ≡ (list_any p xs || list_any q xs)
any_or p q [] = refl
any_or p q (x ∷ xs) = grind (arith, any_or p q xs)

false_true : false ≡ true → ⊥
false_true e = cc

no_of : (a b : Bool) → (a ≡ true → b ≡ true) → b ≡ false → a ≡ false
no_of true b f e = absurd (false_true (sym e ∙ f refl))
no_of false b f e = refl

more_closed : (w a r q : Bool) → (w ≡ true → a ≡ true) → ((w || r) || ((a || q) || false)) ≡ ((r || q) || a)
more_closed true true r q f = grind arith
more_closed true false r q f = absurd (false_true (f refl))
more_closed false a r q f = grind arith

still_over : (c n h : Bool) → (c && h) ≡ true → ((c || n) && h) ≡ true
still_over true n h e = e
still_over false n h e = cc

not_open : (w r h : Bool) → ((w || r) && not h) ≡ false → ((r || false) && not h) ≡ false
not_open w true true e = refl
not_open true true false e = cc
not_open false true false e = cc
not_open w false h e = refl

no_more : (b : Bool) → (b && not true) ≡ false
no_more true = refl
no_more false = refl

answered_then : (w a : Bool) → (w ≡ true → a ≡ true) → (w || (a || false)) ≡ true → a ≡ true
answered_then true a f e = f refl
answered_then false true f e = refl
answered_then false false f e = e

stays_some : (o p : Option Heard) → is_some o ≡ true → is_some (option_or o p) ≡ true
stays_some None p e = absurd (false_true e)
stays_some (Some m) p e = refl

counted : (m : Heard) (n : ℕ) (b : Bool) → n + length (cond b (m ∷ []) []) ≡ (if b then n + 1 else n)
counted m n true = refl
counted m n false = omega arith

module _ (c : Course) where
  pub closed_by : is_closed c ≡ (list_any was_answered c.behind || is_replaced c)
  closed_by = any_or was_answered (replaced_by c.request) c.behind

  -- ---- what is kept

  -- one more request behind it
  pub kept_behind : (r : AskedRequest) → kept (and_behind r c) ≡ streaming.asked_again r (kept c)
  kept_behind r = ap (λ g. record (kept c) { replaced = g })
      (list_any-append (replaced_by c.request) c.behind (record { request = r; answered = is_answered c } ∷ [])
      ∙ ap (λ g. is_replaced c || g) (or_false (replaces r c.request)))

  answer_more : (m : Heard) → is_answered c ≡ false → (o : Option Heard) → answer c ≡ o → find is_final (c.answers ++ m ∷ [])
      ≡ (if not (is_pending m) then Some m else None)
  answer_more m e None is = find-append is_final c.answers (m ∷ []) ∙ ap (λ o. option_or o (find is_final (m ∷ []))) is
  answer_more m e (Some n) is = absurd (false_true (sym e ∙ ap is_some is))

  pendings_more : (m : Heard) → length (filter is_pending (c.answers ++ m ∷ [])) ≡ (if is_pending m then pendings c + 1 else pendings c)
  pendings_more m = ap length (filter-append is_pending c.answers (m ∷ []))
      ∙ (length-append (filter is_pending c.answers) (filter is_pending (m ∷ [])) ∙ counted m (pendings c) (is_pending m))

  abbrev made : ℕ → Option Heard → Open
  made n o = record (kept c) { pendings = n; answer = o; hears = false }

  kept_case : (m : Heard) → is_answered c ≡ false → (o : Option Heard) → answer c ≡ o → (p : Bool) → is_pending m ≡ p
      → kept (with_answer m c) ≡ streaming.with_message m (kept c)
  kept_case m e (Some n) is p pend = absurd (false_true (sym e ∙ ap is_some is))
  kept_case m e None is true pend =
      ap₂ made (pendings_more m ∙ ap (λ b. if b then pendings c + 1 else pendings c) pend)
      (answer_more m e None is ∙ (ap (λ b. if not b then Some m else None) pend ∙ sym is))
      ∙ sym (ap (λ b. if b then made (pendings c + 1) (answer c) else made (pendings c) (Some m)) pend)
  kept_case m e None is false pend =
      ap₂ made (pendings_more m ∙ ap (λ b. if b then pendings c + 1 else pendings c) pend)
      (answer_more m e None is ∙ ap (λ b. if not b then Some m else None) pend)
      ∙ sym (ap (λ b. if b then made (pendings c + 1) (answer c) else made (pendings c) (Some m)) pend)

  -- a message answers it
  pub kept_answer : (m : Heard) → is_answered c ≡ false → kept (with_answer m c) ≡ streaming.with_message m (kept c)
  kept_answer m e = kept_case m e (answer c) refl (is_pending m) refl

  module _ (s : IsSound c) where
    -- ---- when it is over

    unanswered_closed : is_answered c ≡ false → is_closed c ≡ is_replaced c
    unanswered_closed e = closed_by ∙ ap (λ w. w || is_replaced c) (no_of (list_any was_answered c.behind) (is_answered c) s.stays e)

    pub candidate_open : (start : Start) → is_candidate start c ≡ true → is_over c ≡ false
    candidate_open start e =
        let both = and_true (fits start c.request && not (is_answered c)) (not (is_replaced c)) e in
        let quiet = and_true (fits start c.request) (not (is_answered c)) both.0 in
        ap (λ b. b && not c.hears) (unanswered_closed (not_true (is_answered c) quiet.1) ∙ not_true (is_replaced c) both.1)

    pub hearing_open : hears_it c ≡ true → is_over c ≡ false
    hearing_open e = ap (λ h. is_closed c && not h) e ∙ no_more (is_closed c)

    pub open_goes_on : is_over c ≡ false → is_done false (kept c) ≡ false
    open_goes_on e = not_open (list_any was_answered c.behind) (is_replaced c) c.hears (ap (λ b. b && not c.hears) (sym closed_by) ∙ e)

    -- one more request behind it
    pub over_behind : (r : AskedRequest) → is_over c ≡ true → is_over (and_behind r c) ≡ true
    over_behind r e =
        ap (λ b. b && not c.hears) (list_any-append (closes c.request) c.behind (record { request = r; answered = is_answered c } ∷ []))
        ∙ still_over (is_closed c) (closes c.request (record { request = r; answered = is_answered c }) || false) (not c.hears) e

    pub done_behind : (r : AskedRequest) → is_over (and_behind r c) ≡ is_done true (streaming.asked_again r (kept c))
    done_behind r =
        ap (λ b. b && not c.hears) (list_any-append (closes c.request) c.behind (record { request = r; answered = is_answered c } ∷ [])
        ∙ (ap (λ b. b || ((is_answered c || replaces r c.request) || false)) closed_by
        ∙ more_closed (list_any was_answered c.behind) (is_answered c) (is_replaced c) (replaces r c.request) s.stays))

    -- a message begins that would answer it
    pub done_hearing : is_over (hearing c) ≡ is_done false (kept (hearing c))
    done_hearing = no_more (is_closed c) ∙ sym (no_more (is_replaced c || false))

    -- it hears, and does no more
    pub done_hushed : hears_it c ≡ true → is_over (hears_no_more c) ≡ is_done false (kept (hears_no_more c))
    done_hushed e = ap (λ b. b && true) (unanswered_closed (s.quiet e) ∙ sym (or_false (is_replaced c)))

    pub done_answer : (m : Heard) → hears_it c ≡ true → is_over (with_answer m c) ≡ is_done false (kept (with_answer m c))
    done_answer m e = ap (λ b. b && true) (unanswered_closed (s.quiet e) ∙ sym (or_false (is_replaced c)))

    -- ---- it stays sound

    pub sound_behind : (r : AskedRequest) → IsSound (and_behind r c)
    sound_behind r = record {
      stays = λ e. answered_then (list_any was_answered c.behind) (is_answered c) s.stays
          (sym (list_any-append was_answered c.behind (record { request = r; answered = is_answered c } ∷ [])) ∙ e);
      quiet = s.quiet;
    }

    pub sound_hearing : (start : Start) → is_candidate start c ≡ true → IsSound (hearing c)
    sound_hearing start e =
        let both = and_true (fits start c.request && not (is_answered c)) (not (is_replaced c)) e in
        let quiet = and_true (fits start c.request) (not (is_answered c)) both.0 in
        record { stays = s.stays; quiet = λ _. not_true (is_answered c) quiet.1 }

    pub sound_hushed : IsSound (hears_no_more c)
    sound_hushed = record { stays = s.stays; quiet = λ e. absurd (false_true e) }

    pub sound_answer : (m : Heard) → IsSound (with_answer m c)
    sound_answer m = record {
      stays = λ e. ap is_some (find-append is_final c.answers (m ∷ []))
          ∙ stays_some (answer c) (find is_final (m ∷ [])) (s.stays e);
      quiet = λ e. absurd (false_true e);
    }

pub sound_asked : (r : AskedRequest) → IsSound (asked r)
sound_asked r = record { stays = λ e. absurd (false_true e); quiet = λ e. absurd (false_true e) }
