-- The lines of DTCs, one after the other.
use Rattle.std.proofs.Common.{◌≡◌, ℕ, ◌+◌, ◌<◌, ◌++◌, ◌∷◌, List, Option, Some, None, get_or, drop, refl, ap, ap₂, ◌∙◌, option_map}
use Rattle.std.specs.Prelude.{slice_get}
use Rattle.std.proofs.lemmas.List.{drop_more}
use Rattle.std.proofs.lemmas.Option.{slice_get_within, get_or_from_slice_get}
use Rattle.diag_store.specs.declared.dtcs.Dtc.{Dtc}
use Rattle.diag_store.specs.Dtcs.{row_pair}
use Rattle.diag_text.specs.Text.{code_line, code_lines}

-- the row whose code and status are known
found_row : (o : Option Dtc) (code status : ℕ) → Some (code, status) ≡ option_map row_pair o
    → (row : Dtc) × (o ≡ Some row) × (row.code ≡ code) × (row.status ≡ status)
found_row None code status h = cc
found_row (Some row) code status h =
    let pair : row_pair row ≡ (code, status) = cc in
    (row, refl, ap (λ (p : ℕ × ℕ). p.0) pair, ap (λ (p : ℕ × ℕ). p.1) pair)

pub code_here : (dtcs : List Dtc) (i code status : ℕ) → Some (code, status) ≡ option_map row_pair (slice_get dtcs i)
    → code_lines (drop i dtcs) ≡ code_line code status ++ code_lines (drop (i + 1) dtcs)
code_here dtcs i code status h =
    let found = found_row (slice_get dtcs i) code status h in
    let row = found.0 in
    let lt : i < _ = slice_get_within dtcs i row found.1 in
    let at : get_or dtcs i row ≡ row = get_or_from_slice_get dtcs i row row found.1 in
    ap code_lines (drop_more dtcs i row lt)
    ∙ (ap (λ r. code_lines (r ∷ drop (i + 1) dtcs)) at
    ∙ ap₂ (λ c s. code_line c s ++ code_lines (drop (i + 1) dtcs)) found.2 found.3)
