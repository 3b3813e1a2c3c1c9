-- Moments, histories and times of a list of events with further events.
use Rattle.std.proofs.Common.{◌≡◌, ℕ, zero, suc, ◌+◌, cond, List, [], ◌∷◌, ◌++◌, refl, sym, ◌∙◌, ap, arith, append_assoc, replicate}
use Rattle.std.specs.Prelude.{count_by, IsTrue, if◌then◌else◌}
use Rattle.std.proofs.lemmas.List.{append-nil, replicate-append-replicate}
use Rattle.std.proofs.lemmas.List.Folds.{sum_by-replicate}
use Rattle.std.proofs.lemmas.List.Sums.{sum_by-append, sum_by-cons}
use Rattle.diag_can.specs.Event.{Event, Physical, Functional, Ticks}
use Rattle.diag_tp.specs.Link.{is_frame}
use Rattle.diag_tp.specs.Moments.{moments, is_tick, after, history, now, last_time}

pub moments-append : (E D : List Event) → moments (E ++ D) ≡ moments E ++ moments D
moments-append [] D = refl
moments-append (Ticks n ∷ E) D = ap (λ M. replicate n (Ticks 1) ++ M) (moments-append E D) ∙ sym (append_assoc (replicate n (Ticks 1)) (moments E) (moments D))
moments-append (x ∷ E) D = ap (λ M. x ∷ M) (moments-append E D)

-- one tick count after another is their sum
pub moments-sum : (E : List Event) (n m : ℕ) → moments ((E ++ Ticks n ∷ []) ++ Ticks m ∷ []) ≡ moments (E ++ Ticks (n + m) ∷ [])
moments-sum E n m = simp (append_assoc, moments-append, append-nil, replicate-append-replicate)

-- further events come before a history, one by one
pub after-append : (past E D : List Event) → after past (E ++ D) ≡ after (after past E) D
after-append past [] D = refl
after-append past (Ticks n ∷ E) D = after-append (replicate n (Ticks 1) ++ past) E D
after-append past (x ∷ E) D = after-append (x ∷ past) E D

ticks-shift : (n : ℕ) (past : List Event) → replicate n (Ticks 1) ++ Ticks 1 ∷ past ≡ Ticks 1 ∷ (replicate n (Ticks 1) ++ past)
ticks-shift zero past = refl
ticks-shift (suc n) past = ap (λ (l : List Event). Ticks 1 ∷ l) (ticks-shift n past)

after-ticks : (n : ℕ) (past : List Event) → after past (replicate n (Ticks 1)) ≡ replicate n (Ticks 1) ++ past
after-ticks zero past = refl
after-ticks (suc n) past = after-ticks n (Ticks 1 ∷ past) ∙ ticks-shift n past

-- a history is that of the moments
pub after-moments : (past E : List Event) → after past E ≡ after past (moments E)
after-moments past [] = refl
after-moments past (Ticks n ∷ E) =
    after-moments (replicate n (Ticks 1) ++ past) E
    ∙ (ap (λ p. after p (moments E)) (sym (after-ticks n past)) ∙ sym (after-append past (replicate n (Ticks 1)) (moments E)))
after-moments past (x ∷ E) = after-moments (x ∷ past) E

-- a frame, or one unit tick
abbrev pub IsUnit : Event → Type 0
IsUnit (Physical bytes) = Unit {0}
IsUnit (Functional bytes) = Unit {0}
IsUnit (Ticks n) = n ≡ 1

pub frame-unit : (x : Event) → IsTrue (is_frame x) → IsUnit x
frame-unit x h = grind arith

-- it is the newest moment
pub history-more : (E : List Event) (x : Event) → IsUnit x → history (E ++ x ∷ []) ≡ x ∷ history E
history-more E (Ticks n) h = after-append [] E (Ticks n ∷ []) ∙ rw h refl
history-more E x h = after-append [] E (x ∷ [])

abbrev pub tick_of : Event → ℕ
tick_of x = if is_tick x then 1 else 0

pub now-more : (past : List Event) (x : Event) → now (x ∷ past) ≡ now past + tick_of x
now-more past x = grind arith

now-ticks : (n : ℕ) (past : List Event) → now (replicate n (Ticks 1) ++ past) ≡ now past + n
now-ticks zero past = omega arith
now-ticks (suc n) past = omega (arith, now-ticks n past)

now-after : (past E : List Event) → now (after past E) ≡ now past + count_by is_tick (moments E)
now-after past [] = omega arith
now-after past (Ticks n ∷ E) =
    omega (
      arith,
      now-after (replicate n (Ticks 1) ++ past) E,
      now-ticks n past,
      sum_by-append (λ (e : Event). cond (is_tick e) 1 0) (replicate n (Ticks 1)) (moments E),
      sum_by-replicate (λ (e : Event). cond (is_tick e) 1 0) n (Ticks 1),
    )
now-after past (x ∷ E) = omega (arith, now-after (x ∷ past) E, sum_by-cons (λ (e : Event). cond (is_tick e) 1 0) x (moments E))

-- the time of the last event is the number of all unit ticks
pub last_time-is : (E : List Event) → last_time E ≡ count_by is_tick (moments E)
last_time-is E = now-after [] E ∙ omega arith

-- a tick count is the time that it says
pub last_time-ticks : (E : List Event) (n : ℕ) → last_time (E ++ Ticks n ∷ []) ≡ last_time E + n
last_time-ticks E n = ap now (after-append [] E (Ticks n ∷ [])) ∙ now-ticks n (history E)

-- a frame takes no time
pub last_time-frame : (E : List Event) (e : Event) → IsTrue (is_frame e) → last_time (E ++ e ∷ []) ≡ last_time E
last_time-frame E (Ticks n) h = cc
last_time-frame E e h = ap now (after-append [] E (e ∷ []))
