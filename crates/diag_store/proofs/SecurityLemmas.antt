-- What requests for seeds and keys keep true.
use Rattle.std.proofs.Common.{◌≡◌, ℕ, ◌+◌, ◌-◌, ◌%◌, ◌<◌, ◌&&◌, ◌==◌, true, false, cond, List, [], ◌∷◌, length, refl, sym, ◌∙◌, arith, slice_index, slice_set, is_none, is_some, Bool, Option, Some, None, ap}
use Rattle.std.specs.List.{list_all, All}
use Rattle.std.proofs.lemmas.List.{get_or-set_same, get_or-set_other, length-set, length-map, get_or-replicate}
use Rattle.std.proofs.lemmas.Bool.{eq-eqb, eqb-true, eqb-false, leb-false, ltb-true, lt-ltb}
use Rattle.std.specs.Prelude.{find, map, option_and_then, option_map, replicate, slice_get, unwrap_or}
use Rattle.std.proofs.lemmas.List.Elements.{All-head, All-tail}
use Rattle.diag_setup.specs.declared.raw.RawSetup.{RawSetup}
use Rattle.diag_setup.specs.declared.raw.RawLevel.{RawLevel}
use Rattle.diag_setup.specs.Fits.{LevelFits, NumbersFit}
use Rattle.diag_store.specs.Opening.{level_row, key_row, opening_security}
use Rattle.diag_store.specs.declared.levels.Level.{Level}
use Rattle.diag_store.specs.declared.security.SecurityState.{SecurityState}
use Rattle.diag_store.specs.Rows.{change_first}
use Rattle.diag_store.specs.Security.{with_new_seed, is_unlocked, level_of, next_row, seed_answer, seed_at, seed_given, IsSecurity, has_sub, moved_on, next_is_in_range, is_delayed, outstanding_row, is_right_key, is_last_attempt, after_key, after_right_key, after_wrong_key, after_seed}

right_key-keeps : (s : SecurityState) (who sub : ℕ) → IsSecurity s → IsSecurity (after_right_key s who sub)
right_key-keeps s who sub h = record {
  counts = length-set s.wrong_keys (who - 1) 0 ∙ h.counts;
  delays = h.delays;
  attempts = h.attempts;
  delay = h.delay;
  next = h.next;
  left = λ k below still.
      elim (k == who - 1) as (λ b. (k == who - 1) ≡ b → slice_index (slice_set s.wrong_keys (who - 1) 0) k < s.attempts) [
        | true ↦ λ e. let here : k ≡ who - 1 = eqb-true k (who - 1) e in let at = h.attempts in let all = h.counts in
            rw (here, get_or-set_same s.wrong_keys (who - 1) 0 0 (omega arith)) (omega arith)
        | false ↦ λ e. rw (get_or-set_other s.wrong_keys (who - 1) k 0 0 (eqb-false k (who - 1) e)) (h.left k below still)
      ] refl;
}

pub wrong_key-keeps : (s : SecurityState) (who : ℕ) → IsSecurity s → IsSecurity (after_wrong_key s who)
wrong_key-keeps s who h = record {
  counts = length-set s.wrong_keys (who - 1) (slice_index s.wrong_keys (who - 1) + 1) ∙ h.counts;
  delays = elim (is_last_attempt s who) as (λ b. length (cond b (slice_set s.delays (who - 1) s.delay_ms) s.delays) ≡ 8)
      [ true ↦ length-set s.delays (who - 1) s.delay_ms ∙ h.delays | false ↦ h.delays ];
  attempts = h.attempts;
  delay = h.delay;
  next = h.next;
  left = λ k below.
      let count = slice_index s.wrong_keys (who - 1) + 1 in
      elim (k == who - 1) as (λ b. (k == who - 1) ≡ b
      → slice_index (cond (is_last_attempt s who) (slice_set s.delays (who - 1) s.delay_ms) s.delays) k ≡ 0
      → slice_index (slice_set s.wrong_keys (who - 1) count) k < s.attempts) [
        | true ↦ λ e.
            let here : k ≡ who - 1 = eqb-true k (who - 1) e in
            let counts = h.counts in
            let delays = h.delays in
            rw (here, get_or-set_same s.wrong_keys (who - 1) count 0 (omega arith))
            (elim (is_last_attempt s who) as (λ b. is_last_attempt s who ≡ b
            → slice_index (cond b (slice_set s.delays (who - 1) s.delay_ms) s.delays) (who - 1) ≡ 0 → count < s.attempts) [
              | true ↦ λ last still.
                  let set : s.delay_ms ≡ 0 = sym (get_or-set_same s.delays (who - 1) s.delay_ms 0 (omega arith)) ∙ still in
                  let some = h.delay in
                  absurd (omega arith)
              | false ↦ λ last still. leb-false s.attempts count last
            ] refl)
        | false ↦ λ e.
            rw (get_or-set_other s.wrong_keys (who - 1) k count 0 (eqb-false k (who - 1) e))
            (elim (is_last_attempt s who) as (λ b. slice_index (cond b (slice_set s.delays (who - 1) s.delay_ms) s.delays) k ≡ 0
            → slice_index s.wrong_keys k < s.attempts) [
              | true ↦ λ still. h.left k below (sym (get_or-set_other s.delays (who - 1) k s.delay_ms 0 (eqb-false k (who - 1) e)) ∙ still)
              | false ↦ λ still. h.left k below still
            ])
      ] refl;
}

pub key-keeps : (s : SecurityState) (who sub : ℕ) (key : List ℕ) → IsSecurity s → IsSecurity (after_key s who sub key)
key-keeps s who sub key h =
    let right = right_key-keeps s who sub h in
    let wrong = wrong_key-keeps s who h in
    elim (is_delayed s who) as (λ b. IsSecurity
    (cond b s (cond (is_none (outstanding_row s.outstanding sub)) s (cond (is_right_key s sub key) (after_right_key s who sub) (after_wrong_key s who))))) [
      | true ↦ h
      | false ↦ elim (is_none (outstanding_row s.outstanding sub))
          as (λ b. IsSecurity (cond b s (cond (is_right_key s sub key) (after_right_key s who sub) (after_wrong_key s who)))) [
            | true ↦ h
            | false ↦ elim (is_right_key s sub key) as (λ b. IsSecurity (cond b (after_right_key s who sub) (after_wrong_key s who))) [
              | true ↦ right
              | false ↦ wrong
            ]
          ]
    ]

moved_on-in_range : (level : Level) → next_is_in_range level ≡ true → next_is_in_range (moved_on level) ≡ true
moved_on-in_range level h =
    let below : level.next < length level.rows = ltb-true level.next (length level.rows) h in
    lt-ltb ((level.next + 1) % length level.rows) (length level.rows) (omega arith)

pub move_on-in_range : (sub : ℕ) (levels : List Level) → list_all next_is_in_range levels ≡ true
    → list_all next_is_in_range (change_first (has_sub sub) moved_on levels) ≡ true
move_on-in_range sub [] h = refl
move_on-in_range sub (level ∷ levels) h =
    let rest = move_on-in_range sub levels in
    let moved = moved_on-in_range level in
    elim (next_is_in_range level) as (λ b. next_is_in_range level ≡ b → (b && list_all next_is_in_range levels) ≡ true
    → list_all next_is_in_range (cond (has_sub sub level) (moved_on level ∷ levels) (level ∷ change_first (has_sub sub) moved_on levels)) ≡ true) [
      | true ↦ λ e others. elim (has_sub sub level)
          as (λ b. list_all next_is_in_range (cond b (moved_on level ∷ levels) (level ∷ change_first (has_sub sub) moved_on levels)) ≡ true) [
            | true ↦ rw (moved e) others
            | false ↦ rw e (rest others)
          ]
      | false ↦ λ e others. cc
    ] refl h

pub seed-keeps : (s : SecurityState) (who sub : ℕ) → IsSecurity s → IsSecurity (after_seed s who sub)
seed-keeps s who sub h =
    let moved : IsSecurity (with_new_seed s sub) = record {
      counts = h.counts;
      delays = h.delays;
      attempts = h.attempts;
      delay = h.delay;
      next = move_on-in_range sub s.levels h.next;
      left = h.left;
    } in
    elim (is_delayed s who) as (λ b. IsSecurity
    (cond b s (cond (is_unlocked s sub) s (cond (is_some (outstanding_row s.outstanding sub)) s (with_new_seed s sub))))) [
      | true ↦ h
      | false ↦ elim (is_unlocked s sub) as (λ b. IsSecurity (cond b s (cond (is_some (outstanding_row s.outstanding sub)) s (with_new_seed s sub)))) [
        | true ↦ h
        | false ↦ elim (is_some (outstanding_row s.outstanding sub)) as (λ b. IsSecurity (cond b s (with_new_seed s sub))) [
          | true ↦ h
          | false ↦ moved
        ]
      ]
    ]

-- ---- a seed is answered alike before and after it was given

change_first-find : {X : Type 0} (test : X → Bool) (change : X → X) → ((x : X) → test (change x) ≡ test x) → (xs : List X)
    → find test (change_first test change xs) ≡ option_map change (find test xs)
change_first-find test change same [] = refl
change_first-find test change same (x ∷ xs) =
    let rest = change_first-find test change same xs in
    elim (test x) as (λ b. test x ≡ b
    → find test (cond b (change x ∷ xs) (x ∷ change_first test change xs)) ≡ option_map change (cond b (Some x) (find test xs))) [
      | true ↦ λ e. rw (same x ∙ e) refl
      | false ↦ λ e. rw e rest
    ] refl

level-given : (s : SecurityState) (sub : ℕ) → level_of (with_new_seed s sub) sub ≡ option_map moved_on (level_of s sub)
level-given s sub = change_first-find (has_sub sub) moved_on (λ level. refl) s.levels

abbrev row_of : Option Level → ℕ → List ℕ
row_of level row = unwrap_or (option_and_then (λ l. option_map (λ r. r.seed.items) (slice_get l.rows row)) level) []

row_of-moved : (level : Option Level) (row : ℕ) → row_of (option_map moved_on level) row ≡ row_of level row
row_of-moved None row = refl
row_of-moved (Some level) row = refl

seed_at-given : (s : SecurityState) (sub row : ℕ) → seed_at (with_new_seed s sub) sub row ≡ seed_at s sub row
seed_at-given s sub row = ap (λ level. row_of level row) (level-given s sub) ∙ row_of-moved (level_of s sub) row

some-moved : (level : Option Level) → is_some (option_map moved_on level) ≡ is_some level
some-moved None = refl
some-moved (Some level) = refl

either_known : (s t : SecurityState) (sub : ℕ) (b : Bool) → is_some (level_of t sub) ≡ is_some (level_of s sub)
    → is_some (level_of (cond b s t) sub) ≡ is_some (level_of s sub)
either_known s t sub true same = refl
either_known s t sub false same = same

pub known_after-seed : (s : SecurityState) (who sub : ℕ) → is_some (level_of (after_seed s who sub) sub) ≡ is_some (level_of s sub)
known_after-seed s who sub =
    let new = with_new_seed s sub in
    let held : SecurityState = cond (is_some (outstanding_row s.outstanding sub)) s new in
    let given : SecurityState = cond (is_unlocked s sub) s held in
    either_known s given sub (is_delayed s who)
    (either_known s held sub (is_unlocked s sub)
    (either_known s new sub (is_some (outstanding_row s.outstanding sub)) (ap is_some (level-given s sub) ∙ some-moved (level_of s sub))))

new_row : (sub row : ℕ) → outstanding_row (Some (record { level = sub; row = row })) sub ≡ Some row
new_row sub row = rw (eq-eqb sub sub refl) refl

is_none_then : (o : Option ℕ) → is_some o ≡ false → o ≡ None
is_none_then None e = refl
is_none_then (Some row) e = cc

seed_given-new : (s : SecurityState) (sub : ℕ) → is_unlocked s sub ≡ false → is_some (outstanding_row s.outstanding sub) ≡ false
    → seed_given (with_new_seed s sub) sub ≡ seed_given s sub
seed_given-new s sub locked none =
    let new = with_new_seed s sub in
    let row = next_row s sub in
    let same : seed_at new sub (unwrap_or (outstanding_row new.outstanding sub) (next_row new sub))
    ≡ seed_at s sub (unwrap_or (outstanding_row s.outstanding sub) row) =
    ap (λ o. seed_at new sub (unwrap_or o (next_row new sub))) (new_row sub row)
    ∙ (seed_at-given s sub row ∙ ap (λ o. seed_at s sub (unwrap_or o row)) (sym (is_none_then (outstanding_row s.outstanding sub) none))) in
    elim (is_unlocked s sub) as (λ b. b ≡ false
    → cond b (replicate (length (seed_at new sub 0)) 0) (seed_at new sub (unwrap_or (outstanding_row new.outstanding sub) (next_row new sub)))
    ≡ cond b (replicate (length (seed_at s sub 0)) 0) (seed_at s sub (unwrap_or (outstanding_row s.outstanding sub) row))) [
      | true ↦ λ e. cc
      | false ↦ λ e. same
    ] locked

pub seed_answer-given : (s : SecurityState) (who sub : ℕ) → seed_answer (after_seed s who sub) who sub ≡ seed_answer s who sub
seed_answer-given s who sub =
    let new = with_new_seed s sub in
    elim (is_delayed s who) as (λ b. seed_answer (cond b s (cond (is_unlocked s sub) s (cond (is_some (outstanding_row s.outstanding sub)) s new))) who sub
    ≡ seed_answer s who sub) [
      | true ↦ refl
      | false ↦ elim (is_unlocked s sub) as (λ b. is_unlocked s sub ≡ b
          → seed_answer (cond b s (cond (is_some (outstanding_row s.outstanding sub)) s new)) who sub ≡ seed_answer s who sub) [
            | true ↦ λ locked. refl
            | false ↦ λ locked. elim (is_some (outstanding_row s.outstanding sub)) as (λ b. is_some (outstanding_row s.outstanding sub) ≡ b
                → seed_answer (cond b s new) who sub ≡ seed_answer s who sub) [
                  | true ↦ λ none. refl
                  | false ↦ λ none. ap (λ (seed : List ℕ). cond (is_delayed s who) None (Some seed)) (seed_given-new s sub locked none)
                ] refl
          ] refl
    ]

first-in_range : (levels : List RawLevel) → All LevelFits levels → list_all next_is_in_range (map level_row levels) ≡ true
first-in_range [] h = refl
first-in_range (level ∷ levels) h =
    let first : LevelFits level = All-head LevelFits level levels h in
    let some : 0 < length (map key_row level.rows) = let rows = first.some in simp length-map (omega arith) in
    rw (lt-ltb 0 (length (map key_row level.rows)) some) (first-in_range levels (All-tail LevelFits level levels h))

pub opening-is_security : (setup : RawSetup) → NumbersFit setup → All LevelFits setup.levels → IsSecurity (opening_security setup)
opening-is_security setup numbers levels = record {
  counts = refl;
  delays = refl;
  attempts = numbers.attempts_some;
  delay = numbers.delay_ms;
  next = first-in_range setup.levels levels;
  left = λ k below still. let some = numbers.attempts_some in rw (get_or-replicate {A = ℕ} 8 k 0 0 below) (omega arith);
}
