-- Beginnings of a journal, the entries of one tester, and lists read by `get_elem?`.
use Rattle.std.proofs.Common.{◌≡◌, ◌⊎◌, inl, inr, ℕ, zero, suc, ◌+◌, ◌≤◌, ◌<◌, leb, true, false, cond, List, [], ◌∷◌, ◌++◌, length, get_or, set, refl, sym, ap, ◌∙◌, arith, append_assoc, append-nil, eq-eqb, Some, None}
use mathlib.Core.Option.{some, some-ne-none}
use lib.ListN.{get_elem?}
use Rattle.diag_ecu.specs.State.{State}
use Rattle.diag_desk.specs.Entries.{BeginsWith, own}
use Rattle.diag_desk.specs.Legal.{Run, after}
use Rattle.diag_desk.specs.Timed.{Timed, entries_of, own_timed, timed, timed_entry}
use Rattle.diag_desk.proofs.TimedLemmas.{own_timed-append, own_timed_entries, timed-append, timed_entries}
use Rattle.diag_desk.specs.declared.entry.Entry.{Entry}
use Rattle.diag_gate.proofs.Owned.{owned}
use Rattle.diag_gate.specs.Views.{owns_from, longer, shorter}

module _ {A : Type 0} where
  -- a value is written over at its own place
  pub set_there : (l : List A) (i : ℕ) (a b : A) → get_elem? l i ≡ some b → get_elem? (set l i a) i ≡ some a
  set_there [] i a b e = absurd (some-ne-none b (sym e))
  set_there (x ∷ xs) zero a b e = refl
  set_there (x ∷ xs) (suc i) a b e = set_there xs i a b e

  -- what is read after a write was written there, or was there before
  pub read_set : (l : List A) (i j : ℕ) (a d y : A) → get_or (set l i a) j d ≡ y → ((j ≡ i) × (a ≡ y)) ⊎ (get_or l j d ≡ y)
  read_set [] i j a d y e = inr e
  read_set (x ∷ xs) zero zero a d y e = inl (refl, e)
  read_set (x ∷ xs) zero (suc j) a d y e = inr e
  read_set (x ∷ xs) (suc i) zero a d y e = inr e
  read_set (x ∷ xs) (suc i) (suc j) a d y e = elim (read_set xs i j a d y e) [ inl t ↦ inl (ap suc t.0, t.1) | inr t ↦ inr t ]

pub begins_whole : (xs : List Entry) → BeginsWith xs xs
begins_whole xs = ([], sym (append-nil xs))

pub begins_more : (journal next seen more : List Entry) → next ≡ journal ++ more → BeginsWith journal seen → BeginsWith next seen
begins_more journal next seen more is h = (h.0 ++ more, is ∙ ap (λ l. l ++ more) h.1 ∙ append_assoc seen h.0 more)

-- of two beginnings of one list, the longer begins with the shorter
pub begins_shorter : (journal xs ys : List Entry) → BeginsWith journal xs → BeginsWith journal ys → length xs ≤ length ys → BeginsWith ys xs
begins_shorter journal [] ys a b le = (ys, refl)
begins_shorter journal (x ∷ xs) [] a b le = absurd (omega arith)
begins_shorter [] (x ∷ xs) (y ∷ ys) a b le = let e = a.1 in absurd (cc)
begins_shorter (z ∷ zs) (x ∷ xs) (y ∷ ys) a b le =
    let p : zs ≡ xs ++ a.0 = let e = a.1 in cc in
    let q : zs ≡ ys ++ b.0 = let e = b.1 in cc in
    let same : y ≡ x = let e = a.1 in let f = b.1 in cc in
    let r = begins_shorter zs xs ys (a.0, p) (b.0, q) (omega arith) in
    (r.0, (λ i. same i ∷ r.1 i))

pub longer_begins : (journal xs ys : List Entry) → BeginsWith journal xs → BeginsWith journal ys → BeginsWith journal (longer xs ys)
longer_begins journal xs ys a b = elim (leb (length xs) (length ys)) as (λ t. BeginsWith journal (cond t ys xs)) [ true ↦ b | false ↦ a ]

pub shorter_begins : (journal xs ys : List Entry) → BeginsWith journal xs → BeginsWith journal ys → BeginsWith journal (shorter xs ys)
shorter_begins journal xs ys a b = elim (leb (length xs) (length ys)) as (λ t. BeginsWith journal (cond t xs ys)) [ true ↦ a | false ↦ b ]

pub own-append : (s : State) (t : ℕ) (xs ys : List Entry) → owned s t (xs ++ ys) ≡ owned s t xs ++ owned (after s xs) t ys
own-append s t xs ys =
    ap (λ (l : List Timed). own_timed l t) (timed-append s xs ys) ∙ own_timed-append (timed s xs) (timed (after s xs) ys) t

pub own_same : (s : State) (t : ℕ) (e : Entry) → e.who ≡ t → owned s t (e ∷ []) ≡ timed_entry s e ∷ []
own_same s t e is = ap (λ b. cond b (timed_entry s e ∷ []) []) (eq-eqb e.who t is)

no_entries : (xs : List Timed) → entries_of xs ≡ [] → xs ≡ []
no_entries [] e = refl
no_entries (x ∷ xs) e = absurd (cc)

-- who has no entry has none with a delay
pub own_none : (s : State) (t : ℕ) (xs : List Entry) → own xs t ≡ [] → owned s t xs ≡ []
own_none s t xs none =
    no_entries (owned s t xs) (own_timed_entries (timed s xs) t ∙ ap (λ (l : List Entry). own l t) (timed_entries s xs) ∙ none)

pub owns_read : (k n t : ℕ) (r : Run) (l : List Timed) → get_or (owns_from k n r) t None ≡ Some l → owned r.opening (k + t) r.journal ≡ l
owns_read k zero t r l e = absurd (cc)
owns_read k (suc n) zero r l e = let same : k + 0 ≡ k = omega arith in ap (λ (u : ℕ). owned r.opening u r.journal) same ∙ (let f = e in cc)
owns_read k (suc n) (suc t) r l e = let same : k + suc t ≡ suc k + t = omega arith in
    ap (λ (u : ℕ). owned r.opening u r.journal) same ∙ owns_read (suc k) n t r l e

pub owns_there : (k n t : ℕ) (r : Run) → t < n → get_or (owns_from k n r) t None ≡ Some (owned r.opening (k + t) r.journal)
owns_there k zero t r h = absurd (omega arith)
owns_there k (suc n) zero r h = let same : k ≡ k + 0 = omega arith in ap (λ (u : ℕ). Some (owned r.opening u r.journal)) same
owns_there k (suc n) (suc t) r h = let same : suc k + t ≡ k + suc t = omega arith in
    owns_there (suc k) n t r (omega arith) ∙ ap (λ (u : ℕ). Some (owned r.opening u r.journal)) same
