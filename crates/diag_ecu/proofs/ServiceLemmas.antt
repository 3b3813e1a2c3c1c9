-- What single services and ticks do, told by the tables.
use Rattle.std.proofs.Common.{◌≡◌, append_assoc, add-one, ℕ, zero, suc, ◌+◌, true, false, not, cond, List, [], ◌∷◌, ◌++◌, drop, Option, Some, None, refl, ap, slice_get, bit_and, ◌==◌, if◌then◌else◌}
use Rattle.std.specs.Prelude.{flat_map, option_map}
use Rattle.diag_store.specs.Routines as routines
use Rattle.diag_store.specs.Dtcs.{row_pair, matching}
use Rattle.diag_store.specs.declared.dtcs.Dtc.{Dtc}
use Rattle.diag_store.specs.declared.routines.Routine.{Routine}
use Rattle.diag_store.specs.declared.routines.RoutineState.TheVariants.{Done}
use Rattle.diag_ecu.specs.Bytes.{bytes_24}
use Rattle.diag_ecu.specs.Respond.{routine_results, report}

pub done_result : (rows : List Routine) (id : ℕ) (result : List ℕ) → routines.state_of rows id ≡ Some Done → routines.result_of rows id ≡ Some result
    → routine_results (routines.routine_of rows id) ≡ 0x00 ∷ result
done_result rows id result is_done has =
    elim (routines.routine_of rows id) as (λ (o : Option Routine). option_map (λ row. row.state) o ≡ Some Done
    → option_map (λ row. row.result.items) o ≡ Some result → routine_results o ≡ 0x00 ∷ result) [
      | None ↦ λ e f. cc
      | Some row ↦ λ e f.
          let state : row.state ≡ Done = cc in
          let items : row.result.items ≡ result = cc in
          rw (state, items) refl
    ] is_done has

-- a code and the reports after it
pub report_next : (availability : ℕ) (rows : List Dtc) (i code status : ℕ) → option_map row_pair (slice_get rows i) ≡ Some (code, status)
    → flat_map (report availability) (drop i rows) ≡ (bytes_24 code ++ bit_and status availability ∷ []) ++ flat_map (report availability) (drop (suc i) rows)
report_next availability [] i code status e = cc
report_next availability (row ∷ rows) zero code status e =
    let pair : row_pair row ≡ (code, status) = cc in
    let same_code : row.code ≡ code = ap (λ (p : ℕ × ℕ). p.0) pair in
    let same_status : row.status ≡ status = ap (λ (p : ℕ × ℕ). p.1) pair in
    rw (← same_code, ← same_status) refl
report_next availability (row ∷ rows) (suc i) code status e = report_next availability rows i code status e

pub counted_next : (availability mask : ℕ) (rows : List Dtc) (i code status : ℕ) → option_map row_pair (slice_get rows i) ≡ Some (code, status)
    → flat_map (report availability) (matching (drop i rows) mask)
    ≡ (if bit_and status mask == 0 then [] else bytes_24 code ++ bit_and status availability ∷ [])
    ++ flat_map (report availability) (matching (drop (suc i) rows) mask)
counted_next availability mask [] i code status e = cc
counted_next availability mask (row ∷ rows) zero code status e =
    let pair : row_pair row ≡ (code, status) = cc in
    let same_code : row.code ≡ code = ap (λ (p : ℕ × ℕ). p.0) pair in
    let same_status : row.status ≡ status = ap (λ (p : ℕ × ℕ). p.1) pair in
    rw (← same_code, ← same_status) (elim (bit_and row.status mask == 0)
    as (λ b. flat_map (report availability) (cond (not b) (row ∷ matching rows mask) (matching rows mask))
    ≡ cond b [] (bytes_24 row.code ++ bit_and row.status availability ∷ []) ++ flat_map (report availability) (matching rows mask))
    [ true ↦ refl | false ↦ refl ])
counted_next availability mask (row ∷ rows) (suc i) code status e = counted_next availability mask rows i code status e

-- a reply to which the next report was added
pub report_joins : (availability : ℕ) (rows : List Dtc) (i code status : ℕ) → option_map row_pair (slice_get rows i) ≡ Some (code, status)
    → (before after : List ℕ) → after ≡ before ++ (bytes_24 code ++ bit_and status availability ∷ [])
    → after ++ flat_map (report availability) (drop (i + 1) rows) ≡ before ++ flat_map (report availability) (drop i rows)
report_joins availability rows i code status found before after e =
    rw (e, add-one, report_next availability rows i code status found) (simp append_assoc)

pub counted_joins : (availability mask : ℕ) (rows : List Dtc) (i code status : ℕ) → option_map row_pair (slice_get rows i) ≡ Some (code, status)
    → (bit_and status mask == 0) ≡ false
    → (before after : List ℕ) → after ≡ before ++ (bytes_24 code ++ bit_and status availability ∷ [])
    → after ++ flat_map (report availability) (matching (drop (i + 1) rows) mask) ≡ before ++ flat_map (report availability) (matching (drop i rows) mask)
counted_joins availability mask rows i code status found some before after e =
    rw (e, add-one, counted_next availability mask rows i code status found, some) (simp append_assoc)
