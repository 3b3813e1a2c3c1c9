-- What the entries of a journal can be, one entry later.
use Rattle.std.proofs.Common.{◌≡◌, ℕ, zero, suc, ◌+◌, ◌≤◌, List, [], ◌∷◌, ◌++◌, length, Some, slice_get, sym, ap, ◌∙◌, subst, arith, length-append}
use Rattle.std.proofs.lemmas.Option.{same_Some}
use Rattle.diag_desk.specs.declared.entry.Entry.{Entry}
use Rattle.diag_desk.specs.Entry.{AreEntries, IsEntry, IsJournal}

pub entries_more : (es : List Entry) (e : Entry) → AreEntries es → IsEntry e → AreEntries (es ++ e ∷ [])
entries_more [] e h k = (k, tt)
entries_more (x ∷ xs) e h k = (h.0, entries_more xs e h.1 k)

below_full : (n m : ℕ) → n ≤ 1000000 → m ≡ n + 1 → (n ≡ 1000000 → ⊥) → m ≤ 1000000
below_full n m le is free = omega (arith, free)

-- a journal and its clocks, one entry later
pub journal_more : (es js : List Entry) (e : Entry) → IsJournal es → IsEntry e → (length es ≡ 1000000 → ⊥) → js ≡ es ++ e ∷ [] → IsJournal js
journal_more es js e h k free is =
    let long : length js ≡ length es + 1 = ap length is ∙ length-append es (e ∷ []) in
    let within = h.1 in
    (subst AreEntries (sym is) (entries_more es e h.0 k), below_full (length es) (length js) within long free)

pub entry_at : (es : List Entry) (i : ℕ) (e : Entry) → AreEntries es → slice_get es i ≡ Some e → IsEntry e
entry_at [] i e h at = cc
entry_at (x ∷ es) zero e h at = subst IsEntry (same_Some x e at) h.0
entry_at (x ∷ es) (suc i) e h at = entry_at es i e h.1 at
