-- What is told with each line, and at the end, is each exchange once.
use Rattle.std.proofs.Common.{◌≡◌, ℕ, List, [], ◌∷◌, ◌++◌, length, map, drop, ap, sym, ◌∙◌, append_assoc}
use Rattle.std.proofs.lemmas.List.{append-nil, map-append}
use Rattle.diag_setup.specs.declared.raw.RawSetup.{RawSetup}
use Rattle.diag_ecu.specs.State.{State}
use Rattle.diag_desk.specs.declared.entry.Entry.{Entry}
use Rattle.diag_exchange.specs.Exchanges.{left_open, over, over_with}
use Rattle.diag_exchange.specs.Exchanges as exchanges
use Rattle.diag_exchange.specs.declared.happening.Expected.{Expected}
use Rattle.diag_exchange.specs.declared.happening.Happening.{Happening}
use Rattle.diag_exchange.specs.Over.{Over}
use Rattle.diag_compare.specs.Compare.{beside, open_for, over_by}
use Rattle.diag_compare.specs.Hearing.{happen_after, happenings, line_happens}
use Rattle.diag_compare.specs.Meaning.{over_after}
use Rattle.diag_compare.proofs.Questions.{drop_front}

over_append : (past xs ys : List Happening) → exchanges.over_after past (xs ++ ys) ≡ exchanges.over_after past xs ++ exchanges.over_after (past ++ xs) ys
over_append past [] ys = ap (λ w. exchanges.over_after w ys) (sym (append-nil past))
over_append past (x ∷ xs) ys =
    ap (λ w. over_with past x ++ w) (over_append (past ++ x ∷ []) xs ys
    ∙ ap (λ w. exchanges.over_after (past ++ x ∷ []) xs ++ exchanges.over_after w ys) (append_assoc past (x ∷ []) xs))
    ∙ sym (append_assoc (over_with past x) (exchanges.over_after (past ++ x ∷ []) xs) (exchanges.over_after (past ++ x ∷ xs) ys))

module _ (expects : State → Entry → Expected) (setup : RawSetup) (t : ℕ) where
  pub happen_push : (past lines : List (List ℕ)) (line : List ℕ)
      → happen_after expects setup t past (lines ++ line ∷ []) ≡ happen_after expects setup t past lines ++ line_happens expects setup t (past ++ lines) line
  happen_push past [] line = append-nil (line_happens expects setup t past line) ∙ ap (λ w. line_happens expects setup t w line) (sym (append-nil past))
  happen_push past (first ∷ lines) line =
      let here = line_happens expects setup t past first in
      ap (λ w. here ++ w) (happen_push (past ++ first ∷ []) lines line
      ∙ ap (λ w. happen_after expects setup t (past ++ first ∷ []) lines ++ line_happens expects setup t w line) (append_assoc past (first ∷ []) lines))
      ∙ sym (append_assoc here (happen_after expects setup t (past ++ first ∷ []) lines) (line_happens expects setup t (past ++ first ∷ lines) line))

  abbrev pub all_over : List (List ℕ) → List Over
  all_over lines = over (happenings expects setup t lines)

  -- what is over with a line
  abbrev pub with_line : List (List ℕ) → List ℕ → List Over
  with_line past line = exchanges.over_after (happenings expects setup t past) (line_happens expects setup t past line)

  pub over_push : (past : List (List ℕ)) (line : List ℕ) → all_over (past ++ line ∷ []) ≡ all_over past ++ with_line past line
  over_push past line = ap over (happen_push [] past line) ∙ over_append [] (happenings expects setup t past) (line_happens expects setup t past line)

  pub by_line : (past : List (List ℕ)) (line : List ℕ) → over_by expects setup past line t ≡ map (beside t) (with_line past line)
  by_line past line = ap (map (beside t)) (ap (drop (length (all_over past))) (over_push past line) ∙ drop_front (all_over past) (with_line past line))

  told_so_far : (past lines : List (List ℕ)) → map (beside t) (all_over past) ++ over_after expects setup t past lines ≡ map (beside t)
      (all_over (past ++ lines))
  told_so_far past [] = append-nil (map (beside t) (all_over past)) ∙ ap (λ w. map (beside t) (all_over w)) (sym (append-nil past))
  told_so_far past (line ∷ lines) =
      let rest = over_after expects setup t (past ++ line ∷ []) lines in
      sym (append_assoc (map (beside t) (all_over past)) (over_by expects setup past line t) rest)
      ∙ (ap (λ w. w ++ rest) (ap (λ w. map (beside t) (all_over past) ++ w) (by_line past line)
      ∙ (sym (map-append (beside t) (all_over past) (with_line past line)) ∙ ap (map (beside t)) (sym (over_push past line))))
      ∙ (told_so_far (past ++ line ∷ []) lines ∙ ap (λ w. map (beside t) (all_over w)) (append_assoc past (line ∷ []) lines)))

  pub told_are : (lines : List (List ℕ)) → over_after expects setup t [] lines ++ open_for expects setup lines t
      ≡ map (beside t) (all_over lines ++ left_open (happenings expects setup t lines))
  told_are lines =
      ap (λ w. w ++ open_for expects setup lines t) (told_so_far [] lines)
      ∙ sym (map-append (beside t) (all_over lines) (left_open (happenings expects setup t lines)))
