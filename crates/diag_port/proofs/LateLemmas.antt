-- What one more moment, and a request's messages, make of the messages that are placed and held.
use Rattle.std.proofs.Common.{◌≡◌, ◌≤◌, ◌<◌, ℕ, zero, suc, ◌+◌, max, true, false, List, [], ◌∷◌, ◌++◌, length, map, refl, ap, ap₂, sym, ◌∙◌, arith, replicate}
use Rattle.std.specs.Prelude.{nat_le, nat_lt, if◌then◌else◌}
use Rattle.std.proofs.lemmas.Bool.Decides.{nat_tests}
use Rattle.std.proofs.lemmas.Bool.{leb-true, leb-false, le-leb, ltb-true, ltb-false}
use Rattle.std.proofs.lemmas.List.{append-nil, map-append}
use Rattle.diag_can.specs.Event.{Event, Physical, Functional, Ticks}
use Rattle.diag_tp.specs.Moments.{now}
use Rattle.diag_tp.specs.Wire.{Placed}
use Rattle.diag_port.specs.declared.held.Later.{Later}
use Rattle.diag_port.specs.Late.{Late, reaches, place_of, placed_late, held_late, released, still, AreAskedBy, NoneIsDue, asked_at}

-- ---- the moment that a time is reached

now_rises : (x : Event) (past : List Event) → now past ≤ now (x ∷ past)
now_rises (Physical bytes) past = omega arith
now_rises (Functional bytes) past = omega arith
now_rises (Ticks n) past = omega arith

abbrev step : ℕ → ℕ → ℕ
step n t = if nat_lt n t then 1 else 0

step_none : (n t : ℕ) → t ≤ n → step n t ≡ 0
step_none n t h = grind (arith, nat_tests)

step_one : (n t : ℕ) → n < t → step n t ≡ 1
step_one n t h = grind (arith, nat_tests)

step_most : (n t : ℕ) → step n t ≤ 1
step_most n t = grind (arith, nat_tests)

reaches_most : (past : List Event) (t : ℕ) → reaches past t ≤ suc (length past)
reaches_most [] t = omega (arith, step_most 0 t)
reaches_most (x ∷ past) t = omega (arith, reaches_most past t, step_most (now (x ∷ past)) t)

reaches_in : (past : List Event) (t : ℕ) → t ≤ now past → reaches past t ≤ length past
reaches_in [] t h = omega (arith, step_none 0 t h)
reaches_in (x ∷ past) t h = omega (arith, reaches_most past t, step_none (now (x ∷ past)) t h)

reaches_past : (past : List Event) (t : ℕ) → now past < t → reaches past t ≡ suc (length past)
reaches_past [] t h = step_one 0 t h
reaches_past (x ∷ past) t h =
    let before = reaches_past past t (omega (arith, now_rises x past, h)) in
    omega (arith, before, step_one (now (x ∷ past)) t h)

reaches_same : (x : Event) (past : List Event) (t : ℕ) → t ≤ now past → reaches (x ∷ past) t ≡ reaches past t
reaches_same x past t h = omega (arith, step_none (now (x ∷ past)) t (omega (arith, now_rises x past, h)))

-- what is reached by the end is due there
due_by : (past : List Event) (t : ℕ) → reaches past t ≤ length past → t ≤ now past
due_by past t h = elim (nat_lt (now past) t) as (λ b. nat_lt (now past) t ≡ b → t ≤ now past) [
  | true ↦ λ e. absurd (omega (arith, h, reaches_past past t (ltb-true (now past) t e)))
  | false ↦ λ e. ltb-false (now past) t e
] refl

-- ---- nothing is due

pub released_none : (d t : ℕ) (H : List Later) → NoneIsDue t H → released d t H ≡ []
released_none d t [] h = refl
released_none d t (x ∷ H) h = grind (arith, nat_tests)

pub still_none : (t : ℕ) (H : List Later) → NoneIsDue t H → still t H ≡ H
still_none t [] h = refl
still_none t (x ∷ H) h = grind (arith, nat_tests)

pub still_not_due : (t : ℕ) (H : List Later) → NoneIsDue t (still t H)
still_not_due t [] = tt
still_not_due t (x ∷ H) =
    let rest = still_not_due t H in
    elim (nat_le x.due t) as (λ b. nat_le x.due t ≡ b → NoneIsDue t (if b then still t H else x ∷ H)) [
      | true ↦ λ e. rest
      | false ↦ λ e. leb-false x.due t e
    ] refl

-- ---- messages that may go at the newest moment

-- so may all of these from m on
abbrev pub AreHere : ℕ → ℕ → List Late → Type 0
AreHere d m [] = Unit {0}
AreHere d m (x ∷ L) = (max m x.from ≡ d) × AreHere d m L

here_on : (d m : ℕ) (L : List Late) → AreHere d m L → AreHere d d L
here_on d m [] h = tt
here_on d m (x ∷ L) h = (omega (arith, h.0), here_on d m L h.1)

pub asked_here : (d : ℕ) (L : List Late) → AreAskedBy d L → AreHere d d L
asked_here d [] h = tt
asked_here d (x ∷ L) h = (omega (arith, h.0), asked_here d L h.1)

pub record Goes (past : List Event) (m : ℕ) (L : List Late) (A : List Placed) (H : List Later) : Type 0 where
  pub placed : placed_late past m L ≡ A
  pub held : held_late past m L ≡ H

-- where the first of a list is placed, and where it isn't
goes_first : (past : List Event) (m at : ℕ) (x : Late) (L : List Late) (A : List Placed) (H : List Later)
    → place_of past m x ≡ at → at ≤ length past → Goes past at L A H
    → Goes past m (x ∷ L) (record { moment = at; message = x.later.message } ∷ A) H
goes_first past m at x L A H is fits rest =
    let in_time : nat_le (place_of past m x) (length past) ≡ true = le-leb (place_of past m x) (length past) (omega (arith, is, fits)) in
    record {
      placed = rw in_time (ap₂ (λ n B. record { moment = n; message = x.later.message } ∷ B) is (ap (λ n. placed_late past n L) is ∙ rest.placed));
      held = rw in_time (ap (λ n. held_late past n L) is ∙ rest.held);
    }

goes_none : (past : List Event) (m : ℕ) (x : Late) (L : List Late) → length past < place_of past m x
    → Goes past m (x ∷ L) [] (map (λ y. y.later) (x ∷ L))
goes_none past m x L late =
    let not_in_time : nat_le (place_of past m x) (length past) ≡ false = grind (arith, nat_tests) in
    record { placed = rw not_in_time refl; held = rw not_in_time refl }

pub goes_here : (past : List Event) (m : ℕ) (L : List Late) → AreHere (length past) m L
    → Goes past m L (released (length past) (now past) (map (λ y. y.later) L)) (still (now past) (map (λ y. y.later) L))
goes_here past m [] h = record { placed = refl; held = refl }
goes_here past m (x ∷ L) h =
    elim (nat_le x.later.due (now past))
    as (λ b. nat_le x.later.due (now past) ≡ b → Goes past m (x ∷ L)
    (if b then record { moment = length past; message = x.later.message } ∷ released (length past) (now past) (map (λ y. y.later) L) else [])
    (if b then still (now past) (map (λ y. y.later) L) else map (λ y. y.later) (x ∷ L))) [
      | true ↦ λ e. goes_first past m (length past) x L _ _
          (omega (arith, h.0, reaches_in past x.later.due (leb-true x.later.due (now past) e))) (omega arith)
          (goes_here past (length past) L (here_on (length past) m L h.1))
      | false ↦ λ e. goes_none past m x L (omega (arith, reaches_past past x.later.due (leb-false x.later.due (now past) e)))
    ] refl

-- ---- one more moment

pub goes_on : (x : Event) (past : List Event) (m : ℕ) (L : List Late) → m ≤ length past → AreAskedBy (length past) L
    → Goes (x ∷ past) m L (placed_late past m L ++ released (suc (length past)) (now (x ∷ past)) (held_late past m L))
    (still (now (x ∷ past)) (held_late past m L))
goes_on x past m [] first asked = record { placed = refl; held = refl }
goes_on x past m (y ∷ L) first asked =
    let at = place_of past m y in
    let t = now (x ∷ past) in
    let d = suc (length past) in
    let rest = map (λ z. z.later) L in
    elim (nat_le at (length past))
    as (λ b. nat_le at (length past) ≡ b → Goes (x ∷ past) m (y ∷ L)
    ((if b then record { moment = at; message = y.later.message } ∷ placed_late past at L else [])
    ++ released d t (if b then held_late past at L else y.later ∷ rest))
    (still t (if b then held_late past at L else y.later ∷ rest))) [
      | true ↦ λ e.
          let fits : at ≤ length past = leb-true at (length past) e in
          let due = due_by past y.later.due (omega (arith, fits)) in
          goes_first (x ∷ past) m at y L _ _ (omega (arith, reaches_same x past y.later.due due)) (omega (arith, fits))
          (goes_on x past at L fits asked.1)
      | false ↦ λ e.
          let late : length past < at = leb-false at (length past) e in
          let not_yet : length past < reaches past y.later.due = omega (arith, late, first, asked.0) in
          let before = reaches_most past y.later.due in
          elim (nat_le y.later.due t)
          as (λ b. nat_le y.later.due t ≡ b → Goes (x ∷ past) m (y ∷ L)
          (if b then record { moment = d; message = y.later.message } ∷ released d t rest else []) (if b then still t rest else y.later ∷ rest)) [
            | true ↦ λ now_due. goes_first (x ∷ past) m d y L _ _
                (omega (arith, not_yet, before, first, asked.0, step_none t y.later.due (leb-true y.later.due t now_due))) (omega arith)
                (goes_here (x ∷ past) d L (asked_here d L (later_asked (length past) L asked.1)))
            | false ↦ λ not_due. goes_none (x ∷ past) m y L
                (omega (arith, not_yet, step_one t y.later.due (leb-false y.later.due t not_due)))
          ] refl
    ] refl
  where
    later_asked : (d : ℕ) (L : List Late) → AreAskedBy d L → AreAskedBy (suc d) L
    later_asked d [] h = tt
    later_asked d (x ∷ L) h = (omega (arith, h.0), later_asked d L h.1)

-- ---- ticks before the last of which nothing is due

-- what a time that isn't reached says of an earlier one
none_due_before : (t t' : ℕ) (H : List Later) → t' ≤ t → NoneIsDue t H → NoneIsDue t' H
none_due_before t t' [] le h = tt
none_due_before t t' (x ∷ H) le h = omega (arith, le, h)

abbrev ticks : ℕ → List Event → List Event
ticks k past = replicate k (Ticks 1) ++ past

now-ticks : (k : ℕ) (past : List Event) → now (ticks k past) ≡ now past + k
now-ticks zero past = omega arith
now-ticks (suc k) past = omega (arith, now-ticks k past)

length-ticks : (k : ℕ) (past : List Event) → length (ticks k past) ≡ k + length past
length-ticks zero past = omega arith
length-ticks (suc k) past = omega (arith, length-ticks k past)

pub asked_wider : (m n : ℕ) (L : List Late) → m ≤ n → AreAskedBy m L → AreAskedBy n L
asked_wider m n [] le h = tt
asked_wider m n (x ∷ L) le h = (omega (arith, le, h.0), asked_wider m n L le h.1)

-- in which nothing is due
pub goes_silent : (k : ℕ) (past : List Event) (L : List Late) → AreAskedBy (length past) L → NoneIsDue (now past + k) (held_late past 0 L)
    → Goes (ticks k past) 0 L (placed_late past 0 L) (held_late past 0 L)
goes_silent zero past L asked none = record { placed = refl; held = refl }
goes_silent (suc k) past L asked none =
    let before = goes_silent k past L asked (none_due_before (now past + suc k) (now past + k) _ (omega arith) none) in
    let wider = asked_wider (length past) (length (ticks k past)) L (omega (arith, length-ticks k past)) asked in
    let more = goes_on (Ticks 1) (ticks k past) 0 L (omega arith) wider in
    let t : now (ticks (suc k) past) ≡ now past + suc k = now-ticks (suc k) past in
    let d = suc (length (ticks k past)) in
    let quiet : NoneIsDue (now (ticks (suc k) past)) (held_late past 0 L) = none_due_before _ _ (held_late past 0 L) (omega (arith, t)) none in
    record {
      placed = more.placed
          ∙ (ap₂ (λ A H. A ++ released d (now (ticks (suc k) past)) H) before.placed before.held
          ∙ (ap (λ B. placed_late past 0 L ++ B) (released_none d (now (ticks (suc k) past)) (held_late past 0 L) quiet) ∙ append-nil (placed_late past 0 L)));
      held = more.held ∙ (ap (still (now (ticks (suc k) past))) before.held ∙ still_none (now (ticks (suc k) past)) (held_late past 0 L) quiet);
    }

-- at the last of which something may be
pub goes_ticks : (k : ℕ) (past : List Event) (L : List Late) → AreAskedBy (length past) L → NoneIsDue (now past + k) (held_late past 0 L)
    → Goes (ticks (suc k) past) 0 L
    (placed_late past 0 L ++ released (length (ticks (suc k) past)) (now (ticks (suc k) past)) (held_late past 0 L))
    (still (now (ticks (suc k) past)) (held_late past 0 L))
goes_ticks k past L asked none =
    let before = goes_silent k past L asked none in
    let wider = asked_wider (length past) (length (ticks k past)) L (omega (arith, length-ticks k past)) asked in
    let more = goes_on (Ticks 1) (ticks k past) 0 L (omega arith) wider in
    record {
      placed = more.placed ∙ ap₂ (λ A H. A ++ released (suc (length (ticks k past))) (now (ticks (suc k) past)) H) before.placed before.held;
      held = more.held ∙ ap (still (now (ticks (suc k) past))) before.held;
    }

-- ---- the messages of a request more

asked_later : (d : ℕ) (N : List Later) → map (λ y. y.later) (asked_at d N) ≡ N
asked_later d [] = refl
asked_later d (x ∷ N) = ap (λ w. x ∷ w) (asked_later d N)

asked_at_here : (d m : ℕ) (N : List Later) → m ≤ d → AreHere d m (asked_at d N)
asked_at_here d m [] h = tt
asked_at_here d m (x ∷ N) h = (omega (arith, h), asked_at_here d m N h)

pub asked_more : (d : ℕ) (L : List Late) (N : List Later) → AreAskedBy d L → AreAskedBy d (L ++ asked_at d N)
asked_more d [] [] h = tt
asked_more d [] (x ∷ N) h = (omega arith, asked_more d [] N tt)
asked_more d (y ∷ L) N h = (h.0, asked_more d L N h.1)

pub goes_append : (past : List Event) (m : ℕ) (L : List Late) (N : List Later) → m ≤ length past → AreAskedBy (length past) L
    → Goes past m (L ++ asked_at (length past) N)
    (placed_late past m L ++ released (length past) (now past) (held_late past m L ++ N)) (still (now past) (held_late past m L ++ N))
goes_append past m [] N first asked =
    let here = goes_here past m (asked_at (length past) N) (asked_at_here (length past) m N first) in
    record {
      placed = here.placed ∙ ap (released (length past) (now past)) (asked_later (length past) N);
      held = here.held ∙ ap (still (now past)) (asked_later (length past) N);
    }
goes_append past m (y ∷ L) N first asked =
    let at = place_of past m y in
    let t = now past in
    let d = length past in
    let rest = map (λ z. z.later) L in
    let N' = asked_at d N in
    elim (nat_le at d)
    as (λ b. nat_le at d ≡ b → Goes past m (y ∷ (L ++ N'))
    ((if b then record { moment = at; message = y.later.message } ∷ placed_late past at L else [])
    ++ released d t ((if b then held_late past at L else y.later ∷ rest) ++ N))
    (still t ((if b then held_late past at L else y.later ∷ rest) ++ N))) [
      | true ↦ λ e.
          let fits : at ≤ d = leb-true at d e in
          goes_first past m at y (L ++ N') _ _ refl fits (goes_append past at L N fits asked.1)
      | false ↦ λ e.
          let late : d < at = leb-false at d e in
          let not_yet : d < reaches past y.later.due = omega (arith, late, first, asked.0) in
          let not_due = not_due_by past y.later.due not_yet in
          let none = goes_none past m y (L ++ N') late in
          record {
            placed = none.placed ∙ sym (released_none d t (y.later ∷ (rest ++ N)) not_due);
            held = none.held
                ∙ (ap (λ w. y.later ∷ w) (map-append (λ (z : Late). z.later) L N' ∙ ap (λ w. rest ++ w) (asked_later d N))
                ∙ sym (still_none t (y.later ∷ (rest ++ N)) not_due));
          }
    ] refl
  where
    not_due_by : (past : List Event) (t : ℕ) → length past < reaches past t → now past < t
    not_due_by past t h = elim (nat_le t (now past)) as (λ b. nat_le t (now past) ≡ b → now past < t) [
      | true ↦ λ e. absurd (omega (arith, h, reaches_in past t (leb-true t (now past) e)))
      | false ↦ λ e. leb-false t (now past) e
    ] refl

-- ---- the first of what is held

pub released_due : (d t : ℕ) (x : Later) (H : List Later) → x.due ≤ t → released d t (x ∷ H) ≡ record { moment = d; message = x.message } ∷ released d t H
released_due d t x H h = rw (le-leb x.due t h) refl

pub still_due : (t : ℕ) (x : Later) (H : List Later) → x.due ≤ t → still t (x ∷ H) ≡ still t H
still_due t x H h = rw (le-leb x.due t h) refl
