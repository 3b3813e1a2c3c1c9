-- One tester's entries, compared place by place.
use Rattle.std.proofs.Common.{◌≡◌, inl, inr, ℕ, ◌+◌, true, false, cond, Some, None, List, [], ◌∷◌, ◌++◌, take, drop, ap, sym, ◌∙◌}
use Rattle.std.proofs.lemmas.List.{append-nil, append_cancel_left, drop_all, take-append-drop}
use Rattle.std.proofs.lemmas.List.Elements.{filter-append}
use Rattle.std.proofs.lemmas.Option.{slice_get_cases}
use Rattle.std.specs.Prelude.{◌==◌, slice_get}
use Rattle.diag_pdu.proofs.Lists.{drop-next}
use Rattle.diag_desk.specs.declared.entry.Entry.{Entry}
use Rattle.diag_desk.specs.Entries.{own}
use Rattle.diag_desk.proofs.Runs.{take_one}

own-append : (xs ys : List Entry) (t : ℕ) → own (xs ++ ys) t ≡ own xs t ++ own ys t
own-append xs ys t = filter-append (λ (e : Entry). e.who == t) xs ys

pub own_skips : (journal : List Entry) (t i : ℕ) (x : Entry) → slice_get journal i ≡ Some x → (x.who == t) ≡ false
    → own (take (i + 1) journal) t ≡ own (take i journal) t
own_skips journal t i x at apart =
    ap (λ w. own w t) (take_one journal i x at)
    ∙ (own-append (take i journal) (x ∷ []) t ∙ (ap (λ b. own (take i journal) t ++ cond b (x ∷ []) []) apart ∙ append-nil (own (take i journal) t)))

pub own_takes : (journal : List Entry) (t i : ℕ) (x : Entry) → slice_get journal i ≡ Some x → (x.who == t) ≡ true
    → own (take (i + 1) journal) t ≡ own (take i journal) t ++ x ∷ []
own_takes journal t i x at mine =
    ap (λ w. own w t) (take_one journal i x at) ∙ (own-append (take i journal) (x ∷ []) t ∙ ap (λ b. own (take i journal) t ++ cond b (x ∷ []) []) mine)

-- the tester's entries from its entry at i on
own_from : (journal : List Entry) (t i : ℕ) (x : Entry) → slice_get journal i ≡ Some x → (x.who == t) ≡ true
    → own journal t ≡ own (take i journal) t ++ x ∷ own (drop (i + 1) journal) t
own_from journal t i x at mine =
    ap (λ w. own w t) (sym (take-append-drop i journal)) ∙ (own-append (take i journal) (drop i journal) t
    ∙ (ap (λ w. own (take i journal) t ++ own w t) (drop-next journal i x at)
    ∙ ap (λ b. own (take i journal) t ++ cond b (x ∷ own (drop (i + 1) journal) t) (own (drop (i + 1) journal) t)) mine))

-- where a record that began alike is the tester's entries, it goes on with the tester's entry
kept_from : (journal kept : List Entry) (t i next : ℕ) (x : Entry) → slice_get journal i ≡ Some x → (x.who == t) ≡ true
    → take next kept ≡ own (take i journal) t → kept ≡ own journal t
    → drop next kept ≡ x ∷ own (drop (i + 1) journal) t
kept_from journal kept t i next x at mine same whole =
    append_cancel_left (take next kept) (drop next kept) (x ∷ own (drop (i + 1) journal) t)
    (take-append-drop next kept ∙ (whole ∙ (own_from journal t i x at mine ∙ ap (λ w. w ++ x ∷ own (drop (i + 1) journal) t) (sym same))))

drop_none : {X : Type 0} (xs : List X) (n : ℕ) → slice_get xs n ≡ None → drop n xs ≡ []
drop_none xs n h = elim (slice_get_cases xs n).1 [ inl p ↦ (let there = p.2 in absurd cc) | inr p ↦ drop_all n xs p.0 ]

pub none_left : (journal kept : List Entry) (t i next : ℕ) (x : Entry) → slice_get journal i ≡ Some x → (x.who == t) ≡ true
    → take next kept ≡ own (take i journal) t
    → slice_get kept next ≡ None → kept ≡ own journal t → ⊥
none_left journal kept t i next x at mine same over whole =
    let rest = kept_from journal kept t i next x at mine same whole in
    let empty = drop_none kept next over in
    cc

pub other_left : (journal kept : List Entry) (t i next : ℕ) (x k : Entry) → slice_get journal i ≡ Some x → (x.who == t) ≡ true
    → take next kept ≡ own (take i journal) t
    → slice_get kept next ≡ Some k → (x ≡ k → ⊥) → kept ≡ own journal t → ⊥
other_left journal kept t i next x k at mine same known apart whole =
    let rest = kept_from journal kept t i next x at mine same whole in
    let here = drop-next kept next k known in
    let one : x ≡ k = cc in
    apart one
