-- A journal in which each tester asks what its log gives is the run of an interleaving of the logs.
use Rattle.std.proofs.Common.{◌≡◌, ◌<◌, ◌≤◌, ℕ, ◌+◌, Bool, true, false, cond, Option, Some, None, List, [], ◌∷◌, ◌++◌, length, length-append, drop, refl, ap, ap₂, subst, sym, ◌∙◌, append_assoc, arith}
use Rattle.std.proofs.lemmas.List.{map-append, append-nil}
use Rattle.std.proofs.lemmas.Bool.{eqb-true, eq-eqb}
use Rattle.std.proofs.lemmas.Bool.Decides.{nat_tests}
use Rattle.std.proofs.Math.Seq.{drop-nil, drop-append-add}
use Rattle.std.specs.Prelude.{◌==◌, is_some}
use Rattle.std.specs.Option.{option_to_list}
use Rattle.diag_can.specs.Event.{Event}
use Rattle.diag_pdu.specs.declared.step.Step.{Step}
use Rattle.diag_desk.specs.declared.entry.Entry.{Entry}
use Rattle.diag_pdu.specs.declared.setup.LinkSetup.{LinkSetup}
use Rattle.diag_tp.specs.Gives.{gives, steps_after}
use Rattle.diag_desk.specs.Entries.{own, asked, asked_by}
use Rattle.diag_world.specs.Weaving.{items_of, all_by, steps_of_after, log_at, log_of, until_step, left_of, leftovers, taken_for, weave_after, WeavingLaw}
use Rattle.diag_world.proofs.Interleavings.{items_of-append, items_of-same, items_of-other}

-- what holds of one tester and of each other holds of all
by_tester : (P : ℕ → Type 0) (u : ℕ) → P u → ((t : ℕ) → (u == t) ≡ false → P t) → (t : ℕ) → P t
by_tester P u here away t = pick (u == t) refl
  where
    pick : (b : Bool) → (u == t) ≡ b → P t
    pick true is = subst P (eqb-true u t is) here
    pick false is = away t is

pub steps_after-append : (s : LinkSetup) (p xs ys : List Event) → steps_after s p (xs ++ ys) ≡ steps_after s p xs ++ steps_after s (p ++ xs) ys
steps_after-append s p [] ys = ap (λ q. steps_after s q ys) (sym (append-nil p))
steps_after-append s p (x ∷ xs) ys =
    let now = option_to_list (gives s p x) in
    ap (λ w. now ++ w) (steps_after-append s (p ++ x ∷ []) xs ys ∙ ap (λ q. steps_after s (p ++ x ∷ []) xs ++ steps_after s q ys) (append_assoc p (x ∷ []) xs))
    ∙ sym (append_assoc now (steps_after s (p ++ x ∷ []) xs) (steps_after s (p ++ x ∷ xs) ys))

pub steps_of_after-append : (links : ℕ → LinkSetup) (p xs ys : List (ℕ × Event))
    → steps_of_after links p (xs ++ ys) ≡ steps_of_after links p xs ++ steps_of_after links (p ++ xs) ys
steps_of_after-append links p [] ys = ap (λ q. steps_of_after links q ys) (sym (append-nil p))
steps_of_after-append links p (x ∷ xs) ys =
    let now = all_by x.0 (option_to_list (gives (links x.0) (items_of p x.0) x.1)) in
    ap (λ w. now ++ w) (steps_of_after-append links (p ++ x ∷ []) xs ys
    ∙ ap (λ q. steps_of_after links (p ++ x ∷ []) xs ++ steps_of_after links q ys) (append_assoc p (x ∷ []) xs))
    ∙ sym (append_assoc now (steps_of_after links (p ++ x ∷ []) xs) (steps_of_after links (p ++ x ∷ xs) ys))

-- a run of events of one tester gives what they give to that tester
steps_of_one : (links : ℕ → LinkSetup) (p : List (ℕ × Event)) (t : ℕ) (es : List Event)
    → steps_of_after links p (all_by t es) ≡ all_by t (steps_after (links t) (items_of p t) es)
steps_of_one links p t [] = refl
steps_of_one links p t (e ∷ es) =
    let now = option_to_list (gives (links t) (items_of p t) e) in
    let grown : items_of (p ++ (t, e) ∷ []) t ≡ items_of p t ++ e ∷ [] =
    items_of-append p ((t, e) ∷ []) t ∙ ap (λ w. items_of p t ++ w) (items_of-same t (e ∷ [])) in
    ap (λ w. all_by t now ++ w) (steps_of_one links (p ++ (t, e) ∷ []) t es ∙ ap (λ q. all_by t (steps_after (links t) q es)) grown)
    ∙ sym (map-append (λ s. (t, s)) now (steps_after (links t) (items_of p t ++ e ∷ []) es))

-- the events up to the first that gives a step are a beginning
until_begins : (k : LinkSetup) (p es : List Event) → until_step k p es ++ drop (length (until_step k p es)) es ≡ es
until_begins k p [] = refl
until_begins k p (e ∷ es) = ap (λ w. e ∷ w) (rest (is_some (gives k p e)) (until_begins k (p ++ e ∷ []) es))
  where
    rest : (b : Bool) → until_step k (p ++ e ∷ []) es ++ drop (length (until_step k (p ++ e ∷ []) es)) es ≡ es
        → cond b [] (until_step k (p ++ e ∷ []) es) ++ drop (length (cond b [] (until_step k (p ++ e ∷ []) es))) es ≡ es
    rest true h = refl
    rest false h = h

-- they give the first step alone
until_gives : (k : LinkSetup) (p es : List Event) (s : Step) (ss : List Step) → steps_after k p es ≡ s ∷ ss → steps_after k p (until_step k p es) ≡ s ∷ []
until_gives k p [] s ss h = absurd (none h)
  where
    none : [] ≡ s ∷ ss → ⊥
    none h = cc
until_gives k p (e ∷ es) s ss h = rest (gives k p e) h (λ rest. until_gives k (p ++ e ∷ []) es s ss rest)
  where
    rest : (o : Option Step) → option_to_list o ++ steps_after k (p ++ e ∷ []) es ≡ s ∷ ss
        → (steps_after k (p ++ e ∷ []) es ≡ s ∷ ss → steps_after k (p ++ e ∷ []) (until_step k (p ++ e ∷ []) es) ≡ s ∷ [])
        → option_to_list o ++ steps_after k (p ++ e ∷ []) (cond (is_some o) [] (until_step k (p ++ e ∷ []) es)) ≡ s ∷ []
    rest (Some x) h go = let same : x ≡ s = cc in ap (λ y. y ∷ []) same
    rest None h go = go h

-- what is left then gives the other steps
until_leaves : (k : LinkSetup) (p es : List Event) (s : Step) (ss : List Step) → steps_after k p es ≡ s ∷ ss
    → steps_after k (p ++ until_step k p es) (drop (length (until_step k p es)) es) ≡ ss
until_leaves k p es s ss h =
    let u = until_step k p es in
    let r = drop (length u) es in
    let whole : steps_after k p u ++ steps_after k (p ++ u) r ≡ s ∷ ss = sym (steps_after-append k p u r) ∙ (ap (steps_after k p) (until_begins k p es) ∙ h) in
    let split : s ∷ steps_after k (p ++ u) r ≡ s ∷ ss = ap (λ w. w ++ steps_after k (p ++ u) r) (sym (until_gives k p es s ss h)) ∙ whole in
    cc

pub below_other : (n t : ℕ) → t < n → (n == t) ≡ false
below_other n t h = grind (arith, nat_tests)

-- no event of an earlier tester is left over
leftovers_before : (past : List (ℕ × Event)) (n : ℕ) (logs : List (List Event)) (t : ℕ) → t < n → items_of (leftovers past n logs) t ≡ []
leftovers_before past n [] t h = refl
leftovers_before past n (log ∷ logs) t h =
    let later : t < n + 1 = omega arith in
    items_of-append (all_by n (left_of (items_of past n) log)) (leftovers past (n + 1) logs) t
    ∙ ap₂ ◌++◌ (items_of-other n t (left_of (items_of past n) log) (below_other n t h)) (leftovers_before past (n + 1) logs t later)

-- what is left over of each tester is what is left of its log
leftovers_own : (past : List (ℕ × Event)) (n : ℕ) (logs : List (List Event)) (t : ℕ)
    → items_of (leftovers past n logs) t ≡ left_of (items_of past t) (log_at n logs t)
leftovers_own past n [] t = sym (drop-nil (length (items_of past t)))
leftovers_own past n (log ∷ logs) t = by_tester
    (λ t. items_of (leftovers past n (log ∷ logs)) t ≡ left_of (items_of past t) (log_at n (log ∷ logs) t)) n here
    (λ t apart. away t apart (leftovers_own past (n + 1) logs t)) t
  where
    both : (t : ℕ) → items_of (leftovers past n (log ∷ logs)) t
        ≡ items_of (all_by n (left_of (items_of past n) log)) t ++ items_of (leftovers past (n + 1) logs) t
    both t = items_of-append (all_by n (left_of (items_of past n) log)) (leftovers past (n + 1) logs) t

    here : items_of (leftovers past n (log ∷ logs)) n ≡ left_of (items_of past n) (log_at n (log ∷ logs) n)
    here =
        let later : n < n + 1 = omega arith in
        both n
        ∙ (ap₂ ◌++◌ (items_of-same n (left_of (items_of past n) log)) (leftovers_before past (n + 1) logs n later)
        ∙ (append-nil (left_of (items_of past n) log)
        ∙ ap (λ b. left_of (items_of past n) (cond b log (log_at (n + 1) logs n))) (sym (eq-eqb n n refl))))

    away : (t : ℕ) → (n == t) ≡ false → items_of (leftovers past (n + 1) logs) t ≡ left_of (items_of past t) (log_at (n + 1) logs t)
        → items_of (leftovers past n (log ∷ logs)) t ≡ left_of (items_of past t) (log_at n (log ∷ logs) t)
    away t apart rest =
        both t
        ∙ (ap (λ w. w ++ items_of (leftovers past (n + 1) logs) t) (items_of-other n t (left_of (items_of past n) log) apart)
        ∙ (rest
        ∙ ap (λ b. left_of (items_of past t) (cond b log (log_at (n + 1) logs t))) (sym apart)))

above_other : (n t : ℕ) → n < t → (n == t) ≡ false
above_other n t h = grind (arith, nat_tests)

-- what is left over gives no step, where what is left of each log gives none
leftovers_silent : (links : ℕ → LinkSetup) (past q : List (ℕ × Event)) (n : ℕ) (logs : List (List Event))
    → ((t : ℕ) → n ≤ t → items_of q t ≡ items_of past t)
    → ((t : ℕ) → n ≤ t → steps_after (links t) (items_of past t) (left_of (items_of past t) (log_at n logs t)) ≡ [])
    → steps_of_after links q (leftovers past n logs) ≡ []
leftovers_silent links past q n [] same quiet = refl
leftovers_silent links past q n (log ∷ logs) same quiet =
    let left = left_of (items_of past n) log in
    let reflexive : n ≤ n = omega arith in
    let here : steps_after (links n) (items_of past n) left ≡ [] =
    ap (λ b. steps_after (links n) (items_of past n) (left_of (items_of past n) (cond b log (log_at (n + 1) logs n)))) (sym (eq-eqb n n refl))
    ∙ quiet n reflexive in
    steps_of_after-append links q (all_by n left) (leftovers past (n + 1) logs)
    ∙ ap₂ ◌++◌
    (steps_of_one links q n left ∙ ap (λ w. all_by n w) (ap (λ p. steps_after (links n) p left) (same n reflexive) ∙ here))
    (leftovers_silent links past (q ++ all_by n left) (n + 1) logs
    (λ t h.
    let lower : n ≤ t = omega arith in
    let above : n < t = omega arith in
    items_of-append q (all_by n left) t ∙ (ap (λ w. items_of q t ++ w) (items_of-other n t left (above_other n t above))
    ∙ (append-nil (items_of q t) ∙ same t lower)))
    (λ t h.
    let lower : n ≤ t = omega arith in
    let above : n < t = omega arith in
    ap (λ b. steps_after (links t) (items_of past t) (left_of (items_of past t) (cond b log (log_at (n + 1) logs t)))) (sym (above_other n t above))
    ∙ quiet t lower))

-- what was taken of each log and what is left of it are the log
abbrev Whole : List (ℕ × Event) → List (List Event) → ℕ → Type 0
Whole past logs t = items_of past t ++ left_of (items_of past t) (log_of logs t) ≡ log_of logs t

-- what is left of each log gives what the entries to come ask
abbrev Asks : (ℕ → LinkSetup) → List (ℕ × Event) → List Entry → List (List Event) → ℕ → Type 0
Asks links past journal logs t = asked (own journal t) ≡ steps_after (links t) (items_of past t) (left_of (items_of past t) (log_of logs t))

-- the same after the events for one entry
module _ (links : ℕ → LinkSetup) (past : List (ℕ × Event)) (k : Entry) (ks : List Entry) (logs : List (List Event))
    (whole : (t : ℕ) → Whole past logs t) (asks : (t : ℕ) → Asks links past (k ∷ ks) logs t) where
  own_here : asked (own (k ∷ ks) k.who) ≡ k.step ∷ asked (own ks k.who)
  own_here = ap (λ b. asked (cond b (k ∷ own ks k.who) (own ks k.who))) (eq-eqb k.who k.who refl)

  own_away : (t : ℕ) → (k.who == t) ≡ false → asked (own (k ∷ ks) t) ≡ asked (own ks t)
  own_away t apart = ap (λ b. asked (cond b (k ∷ own ks t) (own ks t))) apart

  first_asked : steps_after (links k.who) (items_of past k.who) (left_of (items_of past k.who) (log_of logs k.who)) ≡ k.step ∷ asked (own ks k.who)
  first_asked = sym (asks k.who) ∙ own_here

  taken_here : items_of (past ++ taken_for links past k.who logs) k.who
      ≡ items_of past k.who ++ until_step (links k.who) (items_of past k.who) (left_of (items_of past k.who) (log_of logs k.who))
  taken_here = items_of-append past (taken_for links past k.who logs) k.who
      ∙ ap (λ w. items_of past k.who ++ w) (items_of-same k.who
      (until_step (links k.who) (items_of past k.who) (left_of (items_of past k.who) (log_of logs k.who))))

  taken_away : (t : ℕ) → (k.who == t) ≡ false → items_of (past ++ taken_for links past k.who logs) t ≡ items_of past t
  taken_away t apart =
      items_of-append past (taken_for links past k.who logs) t
      ∙ (ap (λ w. items_of past t ++ w) (items_of-other k.who t
      (until_step (links k.who) (items_of past k.who) (left_of (items_of past k.who) (log_of logs k.who))) apart) ∙ append-nil (items_of past t))

  -- what is then left of the tester's log
  left_here : left_of (items_of (past ++ taken_for links past k.who logs) k.who) (log_of logs k.who)
      ≡ drop (length (until_step (links k.who) (items_of past k.who) (left_of (items_of past k.who) (log_of logs k.who))))
      (left_of (items_of past k.who) (log_of logs k.who))
  left_here =
      let p = items_of past k.who in
      let log = log_of logs k.who in
      let u = until_step (links k.who) p (left_of p log) in
      ap (λ w. left_of w log) taken_here
      ∙ (ap (λ n. drop n log) (length-append p u)
      ∙ (ap (λ w. drop (length p + length u) w) (sym (whole k.who)) ∙ drop-append-add p (left_of p log) (length u)))

  whole_next : (t : ℕ) → Whole (past ++ taken_for links past k.who logs) logs t
  whole_next = by_tester (λ t. Whole (past ++ taken_for links past k.who logs) logs t) k.who
      (ap₂ ◌++◌ taken_here left_here
      ∙ (append_assoc (items_of past k.who) (until_step (links k.who) (items_of past k.who) (left_of (items_of past k.who) (log_of logs k.who)))
      (drop (length (until_step (links k.who) (items_of past k.who) (left_of (items_of past k.who) (log_of logs k.who))))
      (left_of (items_of past k.who) (log_of logs k.who)))
      ∙ (ap (λ w. items_of past k.who ++ w) (until_begins (links k.who) (items_of past k.who) (left_of (items_of past k.who) (log_of logs k.who)))
      ∙ whole k.who)))
      (λ t apart. ap (λ w. w ++ left_of w (log_of logs t)) (taken_away t apart) ∙ whole t)

  asks_next : (t : ℕ) → Asks links (past ++ taken_for links past k.who logs) ks logs t
  asks_next = by_tester (λ t. Asks links (past ++ taken_for links past k.who logs) ks logs t) k.who
      (sym (ap₂ (steps_after (links k.who)) taken_here left_here
      ∙ until_leaves (links k.who) (items_of past k.who) (left_of (items_of past k.who) (log_of logs k.who)) k.step (asked (own ks k.who)) first_asked))
      (λ t apart. sym (own_away t apart) ∙ (asks t ∙ ap (λ w. steps_after (links t) w (left_of w (log_of logs t))) (sym (taken_away t apart))))

  gives_next : steps_of_after links past (taken_for links past k.who logs) ≡ (k.who, k.step) ∷ []
  gives_next =
      steps_of_one links past k.who (until_step (links k.who) (items_of past k.who) (left_of (items_of past k.who) (log_of logs k.who)))
      ∙ ap (λ w. all_by k.who w) (until_gives (links k.who) (items_of past k.who) (left_of (items_of past k.who) (log_of logs k.who)) k.step
      (asked (own ks k.who)) first_asked)

weaves : (links : ℕ → LinkSetup) (journal : List Entry) (past : List (ℕ × Event)) (logs : List (List Event)) → ((t : ℕ) → Whole past logs t)
    → ((t : ℕ) → Asks links past journal logs t)
    → ((t : ℕ) → items_of (past ++ weave_after links past journal logs) t ≡ log_of logs t)
    × (steps_of_after links past (weave_after links past journal logs) ≡ asked_by journal)
weaves links [] past logs whole asks = (
  (λ t. items_of-append past (leftovers past 1 logs) t ∙ (ap (λ w. items_of past t ++ w) (leftovers_own past 1 logs t) ∙ whole t)),
  leftovers_silent links past past 1 logs (λ t h. refl) (λ t h. sym (asks t)),
)
weaves links (k ∷ ks) past logs whole asks =
    let taken = taken_for links past k.who logs in
    let rest = weaves links ks (past ++ taken) logs (whole_next links past k ks logs whole asks) (asks_next links past k ks logs whole asks) in (
      (λ t. ap (λ w. items_of w t) (sym (append_assoc past taken (weave_after links (past ++ taken) ks logs))) ∙ rest.0 t),
      steps_of_after-append links past taken (weave_after links (past ++ taken) ks logs) ∙ ap₂ ◌++◌ (gives_next links past k ks logs whole asks) rest.1,
    )

pub weaving : WeavingLaw
weaving links journal logs asks = weaves links journal [] logs (λ t. refl) asks
