-- No change of a table changes its keys, so its rows keep rising.
use Rattle.std.proofs.Common.{◌≡◌, ℕ, true, List, refl, false, cond, ap, [], ◌∷◌, Some, is_some}
use Rattle.std.specs.Prelude.{map, find, option_map}
use Rattle.diag_store.specs.declared.levels.Level.{Level}
use Rattle.diag_store.specs.Rows.{change_first}
use Rattle.diag_store.specs.Security.{has_sub, sub_of, moved_on}
use Rattle.diag_store.specs.declared.dids.DidRow.{DidRow}
use Rattle.diag_store.specs.declared.dtcs.Dtc.{Dtc}
use Rattle.diag_store.specs.declared.routines.Routine.{Routine}
use Rattle.diag_setup.specs.Rows.{is_rising}
use Rattle.diag_store.specs.Dids as dids
use Rattle.diag_store.specs.Dtcs as dtcs
use Rattle.diag_store.specs.Routines as routines
use Rattle.diag_store.proofs.RowLemmas.{change_first_rises, map_rises}

pub with_value_rises : (rows : List DidRow) (id : ℕ) (value : List ℕ) → is_rising dids.id_of rows ≡ true
    → is_rising dids.id_of (dids.with_value rows id value) ≡ true
with_value_rises rows id value h = change_first_rises dids.id_of (dids.has_id id) (λ (row : DidRow). record row { value = record { items = value } })
    (λ row. refl) rows h

pub with_status_rises : (rows : List Dtc) (code status : ℕ) → is_rising dtcs.code_of rows ≡ true
    → is_rising dtcs.code_of (dtcs.with_status rows code status) ≡ true
with_status_rises rows code status h = change_first_rises dtcs.code_of (dtcs.has_code code) (dtcs.set_status status) (λ row. refl) rows h

pub all_cleared_rises : (rows : List Dtc) → is_rising dtcs.code_of rows ≡ true → is_rising dtcs.code_of (map (dtcs.set_status dtcs.cleared_status) rows) ≡ true
all_cleared_rises rows h = map_rises dtcs.code_of dtcs.code_of (dtcs.set_status dtcs.cleared_status) (λ row. refl) rows h

pub started_rises : (rows : List Routine) (id : ℕ) → is_rising routines.id_of rows ≡ true → is_rising routines.id_of (routines.started rows id) ≡ true
started_rises rows id h = change_first_rises routines.id_of (routines.has_id id) routines.run (λ row. refl) rows h

pub stopped_rises : (rows : List Routine) (id : ℕ) → is_rising routines.id_of rows ≡ true → is_rising routines.id_of (routines.stopped rows id) ≡ true
stopped_rises rows id h = change_first_rises routines.id_of (routines.has_id id) routines.make_idle (λ row. refl) rows h

pub all_idle_rises : (rows : List Routine) → is_rising routines.id_of rows ≡ true → is_rising routines.id_of (routines.all_idle rows) ≡ true
all_idle_rises rows h = map_rises routines.id_of routines.id_of routines.make_idle (λ row. refl) rows h

pub after_tick_rises : (rows : List Routine) → is_rising routines.id_of rows ≡ true → is_rising routines.id_of (routines.rows_after_tick rows) ≡ true
after_tick_rises rows h = map_rises routines.id_of routines.id_of routines.tick_one (λ row. refl) rows h

pub later_rises : (n : ℕ) (rows : List Routine) → is_rising routines.id_of rows ≡ true → is_rising routines.id_of (routines.rows_later n rows) ≡ true
later_rises n rows h = map_rises routines.id_of routines.id_of (routines.row_later n) (λ row. refl) rows h

pub moved_on_rises : (rows : List Level) (sub : ℕ) → is_rising sub_of rows ≡ true → is_rising sub_of (change_first (has_sub sub) moved_on rows) ≡ true
moved_on_rises rows sub h = change_first_rises sub_of (has_sub sub) moved_on (λ row. refl) rows h

-- an unknown code changes nothing
pub with_status_unknown : (rows : List Dtc) (code status : ℕ) → is_some (dtcs.status_of rows code) ≡ false → dtcs.with_status rows code status ≡ rows
with_status_unknown [] code status h = refl
with_status_unknown (row ∷ rows) code status h =
    let rest = with_status_unknown rows code status in
    elim (dtcs.has_code code row) as (λ b. is_some (option_map (λ (r : Dtc). r.status) (cond b (Some row) (find (dtcs.has_code code) rows))) ≡ false
    → cond b (dtcs.set_status status row ∷ rows) (row ∷ dtcs.with_status rows code status) ≡ row ∷ rows) [
      | true ↦ λ e. cc
      | false ↦ λ e. ap (λ rs. row ∷ rs) (rest e)
    ] h
