-- What a raw setup without a fault has, and that sorting its tables leaves it without one.
use Rattle.std.proofs.Common.{◌≡◌, ℕ, ◌||◌, ◌&&◌, ◌==◌, Bool, true, false, cond, not, nat_le, List, [], ◌∷◌, length, refl, ap, sym, ◌∙◌, Some, None}
use Rattle.std.specs.List.{list_any, list_all}
use Rattle.std.proofs.lemmas.List.Sorted.{list_any-IsPermutation, length_permutation}
use Rattle.diag_setup.specs.declared.raw.RawSetup.{RawSetup}
use Rattle.diag_setup.specs.declared.raw.RawDid.{RawDid}
use Rattle.diag_setup.specs.declared.raw.RawDtc.{RawDtc}
use Rattle.diag_setup.specs.declared.raw.RawRoutine.{RawRoutine}
use Rattle.diag_setup.specs.declared.raw.RawLevel.{RawLevel}
use Rattle.diag_setup.specs.Rows.{has_repeat, in_order, insert_in_order}
use Rattle.diag_setup.specs.Setup.{did_id, dtc_code, routine_id, level_sub, first_holding, fault_of, faults, sorted, is_in_range, dids_are_in_range, dtcs_are_in_range, routines_are_in_range, levels_are_in_range, did_is_in_range, dtc_is_in_range, routine_is_in_range, level_is_in_range, lacks_rows, has_no_rows, has_repeated_id, has_repeated_name, has_duplicates, names_unknown_code, names_unknown_level, done_code_is_known, is_known_code, is_known_level, did_levels_are_known, routine_level_is_known, answer_level_is_known, IsSetup}
use Rattle.diag_setup.proofs.SortLemmas.{in_order-moves, in_order-no_repeat, in_order-is_rising}

-- no check of a list holds
abbrev pub NoneHold : {X : Type 0} → List (Bool × X) → Type 0
NoneHold [] = Unit {0}
NoneHold (check ∷ rest) = (check.0 ≡ false) × NoneHold rest

pub none_hold : {X : Type 0} (checks : List (Bool × X)) → first_holding checks ≡ None → NoneHold checks
none_hold [] h = tt
none_hold (check ∷ rest) h =
    elim check.0 as (λ b. cond b (Some check.1) (first_holding rest) ≡ None → (b ≡ false) × NoneHold rest) [
      | true ↦ λ e. cc
      | false ↦ λ e. (refl, none_hold rest e)
    ] h

none_holding : {X : Type 0} (checks : List (Bool × X)) → NoneHold checks → first_holding checks ≡ None
none_holding [] h = refl
none_holding (check ∷ rest) h = rw h.0 (none_holding rest h.1)

pub both_true : (a b : Bool) → (a && b) ≡ true → (a ≡ true) × (b ≡ true)
both_true true b h = (refl, h)
both_true false b h = cc

list_all-same : {X : Type 0} (p q : X → Bool) → ((x : X) → p x ≡ q x) → (xs : List X) → list_all p xs ≡ list_all q xs
list_all-same p q same [] = refl
list_all-same p q same (x ∷ xs) = rw (same x) (ap (λ b. q x && b) (list_all-same p q same xs))

module _ {X : Type 0} (key : X → ℕ) (p : X → Bool) where
  list_all-insert : (x : X) (ys : List X) → list_all p (insert_in_order key x ys) ≡ (p x && list_all p ys)
  list_all-insert x [] = refl
  list_all-insert x (y ∷ ys) =
      let rest = list_all-insert x ys in
      elim (nat_le (key x) (key y)) as (λ b. list_all p (cond b (x ∷ y ∷ ys) (y ∷ insert_in_order key x ys)) ≡ (p x && (p y && list_all p ys))) [
        | true ↦ refl
        | false ↦ ap (λ b. p y && b) rest ∙ elim (p x) as (λ a. (p y && (a && list_all p ys)) ≡ (a && (p y && list_all p ys))) [
          | true ↦ refl
          | false ↦ elim (p y) as (λ c. (c && false) ≡ false) [ true ↦ refl | false ↦ refl ]
        ]
      ]

  list_all-in_order : (xs : List X) → list_all p (in_order key xs) ≡ list_all p xs
  list_all-in_order [] = refl
  list_all-in_order (x ∷ xs) = list_all-insert x (in_order key xs) ∙ ap (λ b. p x && b) (list_all-in_order xs)

module _ {X : Type 0} (key : X → ℕ) (xs : List X) where
  length-in_order : length (in_order key xs) ≡ length xs
  length-in_order = length_permutation xs (in_order key xs) (in_order-moves key xs)

  list_any-in_order : (p : X → Bool) → list_any p (in_order key xs) ≡ list_any p xs
  list_any-in_order p = sym (list_any-IsPermutation p xs (in_order key xs) (in_order-moves key xs))

dids-in_range : (rows : List RawDid) → dids_are_in_range (in_order did_id rows) ≡ dids_are_in_range rows
dids-in_range rows = rw (length-in_order did_id rows, list_all-in_order did_id did_is_in_range rows) refl

dtcs-in_range : (rows : List RawDtc) → dtcs_are_in_range (in_order dtc_code rows) ≡ dtcs_are_in_range rows
dtcs-in_range rows = rw (length-in_order dtc_code rows, list_all-in_order dtc_code dtc_is_in_range rows) refl

routines-in_range : (rows : List RawRoutine) → routines_are_in_range (in_order routine_id rows) ≡ routines_are_in_range rows
routines-in_range rows = rw (length-in_order routine_id rows, list_all-in_order routine_id routine_is_in_range rows) refl

levels-in_range : (rows : List RawLevel) → levels_are_in_range (in_order level_sub rows) ≡ levels_are_in_range rows
levels-in_range rows = rw (length-in_order level_sub rows, list_all-in_order level_sub level_is_in_range rows) refl

sorted-in_range : (raw : RawSetup) → is_in_range (sorted raw) ≡ is_in_range raw
sorted-in_range raw = rw (dids-in_range raw.dids, dtcs-in_range raw.dtcs, routines-in_range raw.routines, levels-in_range raw.levels) refl

sorted-lacks : (raw : RawSetup) → lacks_rows (sorted raw) ≡ lacks_rows raw
sorted-lacks raw = rw (list_any-in_order level_sub raw.levels has_no_rows) refl

done_code-in_order : (dtcs : List RawDtc) (routine : RawRoutine) → done_code_is_known (in_order dtc_code dtcs) routine ≡ done_code_is_known dtcs routine
done_code-in_order dtcs routine =
    elim routine.on_done as (λ o. is_known_code (in_order dtc_code dtcs) o ≡ is_known_code dtcs o) [
      | None ↦ refl
      | Some row ↦ list_any-in_order dtc_code dtcs (λ r. dtc_code r == row.code)
    ]

known_level-in_order : (levels : List RawLevel) (level : ℕ) → is_known_level (in_order level_sub levels) level ≡ is_known_level levels level
known_level-in_order levels level = ap (λ b. (level == 0) || b) (list_any-in_order level_sub levels (λ r. level_sub r == level))

sorted-unknown_code : (raw : RawSetup) → names_unknown_code (sorted raw) ≡ names_unknown_code raw
sorted-unknown_code raw =
    ap not (list_all-in_order routine_id (done_code_is_known (in_order dtc_code raw.dtcs)) raw.routines
    ∙ list_all-same (done_code_is_known (in_order dtc_code raw.dtcs)) (done_code_is_known raw.dtcs) (done_code-in_order raw.dtcs) raw.routines)

sorted-unknown_level : (raw : RawSetup) → names_unknown_level (sorted raw) ≡ names_unknown_level raw
sorted-unknown_level raw =
    let levels = in_order level_sub raw.levels in
    let did_same : (did : RawDid) → did_levels_are_known levels did ≡ did_levels_are_known raw.levels did =
    λ did. rw (known_level-in_order raw.levels did.read_level, known_level-in_order raw.levels did.write_level) refl in
    let dids = list_all-in_order did_id (did_levels_are_known levels) raw.dids
    ∙ list_all-same (did_levels_are_known levels) (did_levels_are_known raw.levels) did_same raw.dids in
    let routines = list_all-in_order routine_id (routine_level_is_known levels) raw.routines
    ∙ list_all-same (routine_level_is_known levels) (routine_level_is_known raw.levels) (λ routine. known_level-in_order raw.levels routine.level)
    raw.routines in
    let answers = list_all-same (answer_level_is_known levels) (answer_level_is_known raw.levels) (λ row. known_level-in_order raw.levels row.level)
    raw.answers in
    rw (dids, routines, answers) refl

abbrev pub NoRepeats : RawSetup → Type 0
NoRepeats raw = (has_repeat did_id raw.dids ≡ false) × (has_repeat dtc_code raw.dtcs ≡ false) × (has_repeat routine_id raw.routines ≡ false)
    × (has_repeat level_sub raw.levels ≡ false)

repeats_of : (a b c d e f : Bool) → (a || b || c || d || e || f) ≡ false → (a ≡ false) × (b ≡ false) × (c ≡ false) × (d ≡ false) × (e ≡ false) × (f ≡ false)
repeats_of true b c d e f h = cc
repeats_of false true c d e f h = cc
repeats_of false false true d e f h = cc
repeats_of false false false true e f h = cc
repeats_of false false false false true f h = cc
repeats_of false false false false false f h = (refl, refl, refl, refl, refl, h)

pub no_repeats : (raw : RawSetup) → fault_of raw ≡ None → NoRepeats raw
no_repeats raw h =
    let none : NoneHold (faults raw) = none_hold (faults raw) h in
    let each = repeats_of (has_repeated_name raw.testers) (has_repeated_id raw.testers raw.functional) (has_repeat did_id raw.dids)
    (has_repeat dtc_code raw.dtcs) (has_repeat routine_id raw.routines) (has_repeat level_sub raw.levels) none.1.1.0 in
    (each.2, each.3, each.4, each.5)

sorted-duplicates : (raw : RawSetup) → has_duplicates raw ≡ false → NoRepeats raw → has_duplicates (sorted raw) ≡ has_duplicates raw
sorted-duplicates raw h each =
    rw (
      in_order-no_repeat did_id raw.dids each.0,
      in_order-no_repeat dtc_code raw.dtcs each.1,
      in_order-no_repeat routine_id raw.routines each.2,
      in_order-no_repeat level_sub raw.levels each.3,
      each.0,
      each.1,
      each.2,
      each.3,
    ) refl

-- a raw setup without a fault is a setup once its tables are sorted
pub sorted-is_setup : (raw : RawSetup) → fault_of raw ≡ None → IsSetup (sorted raw)
sorted-is_setup raw h =
    let none : NoneHold (faults raw) = none_hold (faults raw) h in
    let each = no_repeats raw h in
    let well : NoneHold (faults (sorted raw)) = (
      ap not (sorted-in_range raw) ∙ none.0,
      (
        sorted-lacks raw
            ∙ none.1.0,
        (
          sorted-duplicates raw none.1.1.0 each
              ∙ none.1.1.0,
          (sorted-unknown_code raw ∙ none.1.1.1.0, (sorted-unknown_level raw ∙ none.1.1.1.1.0, tt)),
        ),
      ),
    ) in (
      none_holding (faults (sorted raw)) well,
      rw (
        in_order-is_rising did_id raw.dids each.0,
        in_order-is_rising dtc_code raw.dtcs each.1,
        in_order-is_rising routine_id raw.routines each.2,
        in_order-is_rising level_sub raw.levels each.3,
      ) refl,
    )
