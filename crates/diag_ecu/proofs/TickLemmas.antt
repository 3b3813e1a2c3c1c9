-- Many ticks at once: the delay apart from the session, and the ticks in which nothing ends.
use Rattle.std.proofs.Common.{◌≡◌, ℕ, zero, suc, ◌+◌, ◌-◌, ◌≤◌, Bool, true, false, cond, List, [], ◌∷◌, Option, Some, None, refl, ap, sym, ◌∙◌, arith}
use Rattle.std.specs.Prelude.{nat_le, is_some, ◌==◌, if◌then◌else◌, slice_index, slice_set}
use Rattle.std.proofs.lemmas.Bool.{lt-leb}
use Rattle.diag_store.proofs.DelayLemmas.{nobody_waits}
use Rattle.diag_store.specs.Security as security
use Rattle.diag_store.specs.Routines.{quiet_in, quiet_ticks, state_later, rows_later, state_after_tick, ends_now, rows_after_tick, codes_after_tick}
use Rattle.diag_store.specs.declared.dtcs.Dtc.{Dtc}
use Rattle.diag_store.specs.declared.routines.Routine.{Routine}
use Rattle.diag_store.specs.declared.routines.RoutineState.{RoutineState}
use Rattle.diag_store.specs.declared.routines.RoutineState.TheVariants.{Idle, Running, Done}
use Rattle.diag_store.specs.declared.security.SecurityState.{SecurityState}
use Rattle.diag_ecu.specs.State.{State, is_holder, session_ended}
use Rattle.diag_ecu.specs.Elapse.{elapse, elapse_each, ticked, delay_ticked, routines_ticked, session_ticked, session_elapsed, delay_elapsed}

-- ---- the delay apart from the session

-- without a holder the session's time stands still
pub not_held : (n : ℕ) (s : State) → is_some s.holder ≡ false → session_elapsed s n ≡ s
not_held zero s e = refl
not_held (suc n) s e =
    let still : session_ticked s ≡ s = rw (e) refl in
    rw still (not_held n s e)

-- a delay goes on whatever is locked
tick_locked : (x : SecurityState) (who : ℕ) → security.after_tick (security.locked x) who ≡ security.locked (security.after_tick x who)
tick_locked x who =
    elim (slice_index x.delays (who - 1) == 0) as (λ b. cond b (security.locked x) (record (security.locked x) {
      delays = slice_set x.delays (who - 1) (slice_index x.delays (who - 1) - 1);
      wrong_keys = if slice_index x.delays (who - 1) == 1 then slice_set x.wrong_keys (who - 1) 0 else x.wrong_keys;
    }) ≡ security.locked (cond b x (record x {
      delays = slice_set x.delays (who - 1) (slice_index x.delays (who - 1) - 1);
      wrong_keys = if slice_index x.delays (who - 1) == 1 then slice_set x.wrong_keys (who - 1) 0 else x.wrong_keys;
    }))) [ true ↦ refl | false ↦ refl ]

ticks_locked : (n : ℕ) (x : SecurityState) (who : ℕ) → security.after_ticks (security.locked x) who n ≡ security.locked (security.after_ticks x who n)
ticks_locked zero x who = refl
ticks_locked (suc n) x who = rw (tick_locked x who) (ticks_locked n (security.after_tick x who) who)

is_held : (o : Option ℕ) (who : ℕ) → security.option_is o who ≡ true → is_some o ≡ true
is_held None who e = cc
is_held (Some t) who e = refl

-- the time of a tester is that of its delay, and then that of the session where it is the holder
pub apart : (n : ℕ) (s : State) (who : ℕ) (h : Bool) → is_holder s who ≡ h
    → elapse s who n ≡ cond h (session_elapsed (delay_elapsed s who n) n) (delay_elapsed s who n)
apart zero s who true e = refl
apart zero s who false e = refl
apart (suc n) s who false e =
    let one : ticked s who ≡ delay_ticked s who = rw (e) refl in
    rw one (apart n (delay_ticked s who) who false e)
apart (suc n) s who true e =
    let before = routines_ticked (delay_ticked s who) in
    let whole = delay_elapsed s who (suc n) in
    let held = is_held s.holder who e in
    elim (nat_le s.s3_left 1) as (λ b. nat_le s.s3_left 1 ≡ b → elapse (ticked s who) who n ≡ session_elapsed (session_ticked whole) n) [
      | true ↦ λ ends.
          let one : ticked s who ≡ session_ended before = rw (e, ends) refl in
          let other : session_ticked whole ≡ session_ended (routines_ticked whole) = rw (held, ends) refl in
          let rest = apart n (session_ended before) who false refl in
          let security_too = ap (λ (x : SecurityState). record (session_ended before) { security = x })
          (ticks_locked n (security.after_tick s.security who) who) in
          rw (one, other) (rest ∙ security_too ∙ sym (not_held n (session_ended (routines_ticked whole)) refl))
      | false ↦ λ lasts.
          let one : ticked s who ≡ record before { s3_left = s.s3_left - 1 } = rw (e, lasts) refl in
          let other : session_ticked whole ≡ record (routines_ticked whole) { s3_left = s.s3_left - 1 } = rw (held, lasts) refl in
          rw (one, other) (apart n (record before { s3_left = s.s3_left - 1 }) who true e)
    ] refl

-- ---- ticks in which nothing ends

state_next : (k : ℕ) (state : RoutineState) → suc k ≤ quiet_in state → state_later k (state_after_tick state) ≡ state_later (suc k) state
state_next k Idle quiet = refl
state_next k Done quiet = refl
state_next k (Running left) quiet =
    let lasts : nat_le left 1 ≡ false = lt-leb left 1 (omega (arith, quiet)) in
    let same : left - 1 - k ≡ left - suc k = omega arith in
    rw (lasts, same) refl

state_none : (state : RoutineState) → state_later 0 state ≡ state
state_none Idle = refl
state_none Done = refl
state_none (Running left) = let same : left - 0 ≡ left = omega arith in rw (same) refl

state_quiet : (k : ℕ) (state : RoutineState) → suc k ≤ quiet_in state → k ≤ quiet_in (state_after_tick state)
state_quiet k Idle quiet = omega (arith, quiet)
state_quiet k Done quiet = omega (arith, quiet)
state_quiet k (Running left) quiet =
    let lasts : nat_le left 1 ≡ false = lt-leb left 1 (omega (arith, quiet)) in
    rw (lasts) (omega (arith, quiet))

state_goes_on : (k : ℕ) (state : RoutineState) → suc k ≤ quiet_in state → ends_now state ≡ false
state_goes_on k Idle quiet = refl
state_goes_on k Done quiet = refl
state_goes_on k (Running left) quiet = lt-leb left 1 (omega (arith, quiet))

rows_none : (rows : List Routine) → rows_later 0 rows ≡ rows
rows_none [] = refl
rows_none (row ∷ rows) = rw (state_none row.state, rows_none rows) refl

rows_next : (k : ℕ) (rows : List Routine) → suc k ≤ quiet_ticks rows → rows_later k (rows_after_tick rows) ≡ rows_later (suc k) rows
rows_next k [] quiet = refl
rows_next k (row ∷ rows) quiet =
    rw (state_next k row.state (omega (arith, quiet)), rows_next k rows (omega (arith, quiet))) refl

rows_quiet : (k : ℕ) (rows : List Routine) → suc k ≤ quiet_ticks rows → k ≤ quiet_ticks (rows_after_tick rows)
rows_quiet k [] quiet = omega (arith, quiet)
rows_quiet k (row ∷ rows) quiet =
    let first = state_quiet k row.state (omega (arith, quiet)) in
    let rest = rows_quiet k rows (omega (arith, quiet)) in
    omega (arith, first, rest)

-- no routine that ends, no code that changes
codes_stay : (k : ℕ) (rows : List Routine) (codes : List Dtc) → suc k ≤ quiet_ticks rows → codes_after_tick rows codes ≡ codes
codes_stay k [] codes quiet = refl
codes_stay k (row ∷ rows) codes quiet =
    rw (state_goes_on k row.state (omega (arith, quiet))) (codes_stay k rows codes (omega (arith, quiet)))

either_way : (b : Bool) (x y : List Dtc) → x ≡ y → cond b x y ≡ y
either_way true x y e = e
either_way false x y e = refl

-- the session after ticks in which neither it nor a routine ends
abbrev pub later : ℕ → State → State
later k s = record s { routines = rows_later k s.routines; s3_left = s.s3_left - k }

pub quiet_session : (k : ℕ) (s : State) → is_some s.holder ≡ true → k ≤ quiet_ticks s.routines → k ≤ s.s3_left - 1 → session_elapsed s k ≡ later k s
quiet_session zero s held quiet lasts =
    let s3 : s.s3_left - 0 ≡ s.s3_left = omega arith in
    rw (rows_none s.routines, s3) refl
quiet_session (suc k) s held quiet lasts =
    let next = later 1 s in
    let codes = either_way s.dtc_setting_on (codes_after_tick s.routines s.dtcs) s.dtcs (codes_stay k s.routines s.dtcs quiet) in
    let s3_lasts : nat_le s.s3_left 1 ≡ false = lt-leb s.s3_left 1 (omega (arith, lasts)) in
    let after : State = record s { routines = rows_after_tick s.routines; s3_left = s.s3_left - 1 } in
    let one : session_ticked s ≡ after = rw (held, s3_lasts, codes) refl in
    let rest = quiet_session k after held (rows_quiet k s.routines quiet) (omega (arith, lasts)) in
    let s3 : s.s3_left - 1 - k ≡ s.s3_left - suc k = omega arith in
    rw one (rest ∙ rw (rows_next k s.routines quiet, s3) refl)

-- ---- the course of the session

pub first_part : (q n whole : ℕ) (s : State) → whole ≡ q + n → session_elapsed s whole ≡ session_elapsed (session_elapsed s q) n
first_part zero n whole s e = let same : whole ≡ n = omega (arith, e) in rw same refl
first_part (suc q) n whole s e = let next : whole ≡ suc (q + n) = omega (arith, e) in rw next (first_part q n (q + n) (session_ticked s) refl)

-- ---- each tester

pub one_more : (s : State) (n m who count : ℕ) → who ≡ n + 1 → m ≡ n + 1 → elapse (elapse_each s n count) who count ≡ elapse_each s m count
one_more s n m who count e f =
    let here : who ≡ suc n = omega (arith, e) in
    let more : m ≡ suc n = omega (arith, f) in
    rw (here, more) refl

-- without a holder and a delay ticks change nothing
rested : (s : State) (who count : ℕ) → s.holder ≡ None → security.nobody_is_delayed s.security ≡ true → elapse s who count ≡ s
rested s who count free none =
    let not_holder : is_holder s who ≡ false = rw free refl in
    apart count s who false not_holder ∙ ap (λ (x : SecurityState). record s { security = x }) (nobody_waits count s.security who none)

pub all_rested : (s : State) (n count : ℕ) → s.holder ≡ None → security.nobody_is_delayed s.security ≡ true → elapse_each s n count ≡ s
all_rested s zero count free none = refl
all_rested s (suc n) count free none = rw (all_rested s n count free none) (rested s (suc n) count free none)
