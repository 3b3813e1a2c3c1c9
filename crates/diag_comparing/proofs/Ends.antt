-- The end of a recording.
use Rattle.std.proofs.Common.{◌≡◌, ℕ, zero, suc, ◌+◌, Bool, true, false, Some, List, [], ◌∷◌, ◌++◌, length, map, take, refl, ap, ap₂, sym, ◌∙◌, append_assoc, arith}
use Rattle.std.proofs.lemmas.List.{append-nil, map-append}
use Rattle.std.proofs.lemmas.Bool.Decides.{nat_tests}
use Rattle.std.proofs.lemmas.List.Folds.{list_any-append}
use Rattle.std.proofs.lemmas.Option.{none-some, same_Some}
use Rattle.std.specs.List.{filter, flat_map, list_any}
use Rattle.std.specs.Prelude.{◌&&◌, ◌||◌, if◌then◌else◌, nat_lt, not, slice_get}
use Rattle.diag_pdu.specs.Cut.{counted_from}
use Rattle.diag_setup.specs.Setup.{name_of}
use Rattle.diag_setup.specs.declared.raw.RawSetup.{RawSetup}
use Rattle.diag_bus.specs.Verdict.{numbers}
use Rattle.diag_exchange.specs.Agreeing.{is_compared}
use Rattle.diag_exchange.specs.Over.{Over}
use Rattle.diag_judge.specs.Judging.{EndsCounted, EndsJudged, differs}
use Rattle.diag_judge.specs.declared.tester.Counts.{Counts}
use Rattle.diag_judge.specs.declared.tester.Tester.{Tester}
use Rattle.diag_judge.specs.declared.tester.Judged.{Judged}
use Rattle.diag_compare.specs.Compare.{any_differs, compares_nothing, count_line, exchanges, open_for, status}
use Rattle.diag_compare.specs.Expects.{expects}
use Rattle.diag_compare.specs.Hearing.{happenings, unit_events}
use Rattle.diag_comparing.specs.Keeping.{IsTester, all_counts, count_lines, count_text, judged_pair, nothing_in, some_compared, some_differ, status_in, tester_counts}
use Rattle.diag_comparing.proofs.Takings.{counted_next, flat_append, pairs_of}

-- ---- counts

above : (n : ℕ) → nat_lt 0 (suc n) ≡ true
above n = grind (arith, nat_tests)

some_differ_in : (os : List Over) → nat_lt 0 (length (filter differs os)) ≡ list_any differs os
some_differ_in [] = refl
some_differ_in (o ∷ os) = pick (differs o) (some_differ_in os)
  where
    pick : (b : Bool) → nat_lt 0 (length (filter differs os)) ≡ list_any differs os
        → nat_lt 0 (length (if b then o ∷ filter differs os else filter differs os)) ≡ (b || list_any differs os)
    pick true rest = above (length (filter differs os))
    pick false rest = rest

module _ (setup : RawSetup) (lines : List (List ℕ)) where
  abbrev of : ℕ → List Over
  of t = exchanges (expects setup) setup lines t

  differ_all : (ts : List ℕ) → list_any some_differ (map (tester_counts setup lines) ts) ≡ list_any differs (flat_map of ts)
  differ_all [] = refl
  differ_all (t ∷ ts) = ap₂ (λ (a b : Bool). a || b) (some_differ_in (of t)) (differ_all ts) ∙ sym (list_any-append differs (of t) (flat_map of ts))

  compared_all : (ts : List ℕ) → list_any some_compared (map (tester_counts setup lines) ts) ≡ list_any is_compared (flat_map of ts)
  compared_all [] = refl
  compared_all (t ∷ ts) = ap (λ b. list_any is_compared (of t) || b) (compared_all ts) ∙ sym (list_any-append is_compared (of t) (flat_map of ts))

  pub differ_is : list_any some_differ (all_counts setup lines) ≡ any_differs (expects setup) setup lines
  differ_is = differ_all (numbers setup)

  pub nothing_is : nothing_in (all_counts setup lines) ≡ compares_nothing (expects setup) setup lines
  nothing_is = ap₂ (λ (a b : Bool). not a && not b) (differ_all (numbers setup)) (compared_all (numbers setup))

  pub status_is : status_in (all_counts setup lines) ≡ status (expects setup) setup lines
  status_is = ap₂ (λ (a b : Bool). if a then 8 else if b then 9 else 0) differ_is nothing_is

  lines_from : (a n : ℕ) → count_lines setup a (map (tester_counts setup lines) (counted_from a n))
      ≡ flat_map (count_line (expects setup) setup lines) (counted_from a n)
  lines_from a zero = refl
  lines_from a (suc n) = ap (λ w. count_line (expects setup) setup lines a ++ w) (lines_from (suc a) n)

  pub lines_are : count_lines setup 1 (all_counts setup lines) ≡ flat_map (count_line (expects setup) setup lines) (numbers setup)
  lines_are = lines_from 1 (length setup.testers)

-- one tester's line more
pub count_more : (setup : RawSetup) (a : ℕ) (cs : List Counts) (i : ℕ) (c : Counts) → slice_get cs i ≡ Some c
    → count_lines setup a (take (suc i) cs) ≡ count_lines setup a (take i cs) ++ count_text (name_of setup (a + i)) c
count_more setup a [] i c at = absurd (none-some c at)
count_more setup a (d ∷ cs) zero c at =
    let same : d ≡ c = same_Some d c at in
    let here : a ≡ a + 0 = omega arith in
    append-nil (count_text (name_of setup a) d) ∙ ap₂ (λ (t : ℕ) (x : Counts). count_text (name_of setup t) x) here same
count_more setup a (d ∷ cs) (suc i) c at =
    let next : suc a + i ≡ a + suc i = omega arith in
    ap (λ w. count_text (name_of setup a) d ++ w) (count_more setup (suc a) cs i c at
    ∙ ap (λ t. count_lines setup (suc a) (take i cs) ++ count_text (name_of setup t) c) next)
    ∙ sym (append_assoc (count_text (name_of setup a) d) (count_lines setup (suc a) (take i cs)) (count_text (name_of setup (a + suc i)) c))

-- ---- testers

module _ (setup : RawSetup) (lines : List (List ℕ)) where
  -- one tester more
  pub end_judged : (own : Tester) (i : ℕ) (judged now now' : List Judged) → IsTester setup lines [] (i + 1) own
      → now ≡ judged ++ map judged_pair (flat_map (open_for (expects setup) setup lines) (counted_from 1 i))
      → EndsJudged own (i + 1) now now'
      → now' ≡ judged ++ map judged_pair (flat_map (open_for (expects setup) setup lines) (counted_from 1 (i + 1)))
  end_judged own i judged now now' h first ends =
      let f = open_for (expects setup) setup lines in
      let more = ends (unit_events setup (i + 1) lines) (happenings (expects setup) setup (i + 1) lines) h.judges
      ∙ ap (λ w. now ++ w) (pairs_of (i + 1) _) in
      more ∙ (ap (λ w. w ++ map judged_pair (f (i + 1))) first
      ∙ (append_assoc judged (map judged_pair (flat_map f (counted_from 1 i))) (map judged_pair (f (i + 1)))
      ∙ ap (λ w. judged ++ w) (sym (map-append judged_pair (flat_map f (counted_from 1 i)) (f (i + 1)))
      ∙ ap (map judged_pair) (sym (ap (flat_map f) (counted_next i)
      ∙ (flat_append f (counted_from 1 i) ((i + 1) ∷ []) ∙ ap (λ w. flat_map f (counted_from 1 i) ++ w) (append-nil (f (i + 1)))))))))

  pub end_counted : (own : Tester) (i : ℕ) (counts : Counts) (now now' : List Counts) → IsTester setup lines [] (i + 1) own
      → now ≡ map (tester_counts setup lines) (counted_from 1 i)
      → EndsCounted own counts
      → now' ≡ now ++ counts ∷ []
      → now' ≡ map (tester_counts setup lines) (counted_from 1 (i + 1))
  end_counted own i counts now now' h first ends is =
      let f = tester_counts setup lines in
      let one : counts ≡ f (i + 1) = ends (unit_events setup (i + 1) lines) (happenings (expects setup) setup (i + 1) lines) h.judges in
      is ∙ (ap₂ (λ (xs : List Counts) (x : Counts). xs ++ x ∷ []) first one
      ∙ (sym (map-append f (counted_from 1 i) ((i + 1) ∷ [])) ∙ ap (map f) (sym (counted_next i))))
