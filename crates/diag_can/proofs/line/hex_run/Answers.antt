use Rattle.std.proofs.Common.{◌≡◌, ◌+◌, ◌-◌, ◌<◌, ◌≤◌, ℕ, List, true, drop, length, length-drop, take, get_or, sym, subst, arith, inl, inr, ap, ◌∙◌}
use Rattle.std.specs.List.{prefix_len}
use Rattle.std.proofs.lemmas.Bool.{cases_lt}
use Rattle.std.proofs.lemmas.List.{get_or-drop, take_all}
use Rattle.std.proofs.lemmas.List.Sums.{prefix_len_is, prefix_len_passes, prefix_len_stops}
use Rattle.hex.specs.Hex.{is_hex_digit}
use Rattle.diag_can.specs.Lanes.{IsRunIn}
use Rattle.diag_can.proofs.line.hex_run.Goals as goal

module _ (text : List ℕ) (at : ℕ) (room : at ≤ length text) (front : (k : ℕ) → k < at → is_hex_digit (get_or text k 0) ≡ true) where
  -- behind digits alone stand some more
  goes_on : (n run : ℕ) → IsRunIn is_hex_digit text at n run → (k : ℕ) → k < at + run → is_hex_digit (get_or text k 0) ≡ true
  goes_on n run more k lt = elim (cases_lt k at) [
    | inl before ↦ front k before
    | inr behind ↦ more.pass k behind lt
  ]

  -- and the run behind them is what is left
  left : (run : ℕ) → run ≡ prefix_len is_hex_digit (drop at text) → run ≤ length (drop at text) → at + run ≡ prefix_len is_hex_digit text
  left run is few =
      let rest = drop at text in
      let size = length-drop at text in
      sym (prefix_len_is is_hex_digit text (at + run) 0 (omega (arith, size, few, room))
      (λ k lt. elim (cases_lt k at) [
        | inl before ↦ front k before
        | inr behind ↦
            let back : at + (k - at) ≡ k = omega arith in
            subst (λ j. is_hex_digit (get_or text j 0) ≡ true) back
            (ap is_hex_digit (sym (get_or-drop at text (k - at) 0)) ∙ prefix_len_passes is_hex_digit rest (k - at) 0 (omega (arith, is, lt, behind)))
      ])
      (λ short.
      let stops = prefix_len_stops is_hex_digit rest 0 (omega (arith, is, short, size, room)) in
      ap is_hex_digit (sym (get_or-drop at text run 0) ∙ ap (λ j. get_or rest j 0) is) ∙ stops))

pub loop-at-init : goal.loop-at-init
loop-at-init c = (omega arith, λ k lt. absurd (omega arith))

pub loop-at-preserved : goal.loop-at-preserved
loop-at-preserved c =
    let run = c.hex_of_sixteen-run.ensures in
    let all : c.hex_of_sixteen-run.result ≡ 16 = omega (arith, run.in_range, c.if-run-lt16.false) in (
      omega (arith, c.loop-at-test.true),
      λ k lt. goes_on c.args.text.now c.loop-at.at c.loop-at.invariant.0 c.loop-at.invariant.1 16 c.hex_of_sixteen-run.result run k (omega (arith, all, lt)),
    )

pub returns-then-run-lt16-clause-count : goal.returns-then-run-lt16-clause-count
returns-then-run-lt16-clause-count c =
    let run = c.hex_of_sixteen-run.ensures in
    sym (prefix_len_is is_hex_digit c.args.text.now (c.loop-at.at + c.hex_of_sixteen-run.result) 0 (omega (arith, run.in_range, c.loop-at-test.true))
    (goes_on c.args.text.now c.loop-at.at c.loop-at.invariant.0 c.loop-at.invariant.1 16 c.hex_of_sixteen-run.result run)
    (λ _. run.stops c.if-run-lt16.true))

pub returns-clause-count : goal.returns-clause-count
returns-clause-count c =
    let text = c.args.text.now in
    let at = c.loop-at.at in
    let all : take (length text - at) (drop at text) ≡ drop at text = take_all (length text - at) (drop at text) (omega (arith, length-drop at text)) in
    left text at c.loop-at.invariant.0 c.loop-at.invariant.1 c.few_hex_run.result (subst (λ (rest : List ℕ). c.few_hex_run.result ≡ prefix_len is_hex_digit rest) all c.few_hex_run.ensures.count)
    (subst (λ (rest : List ℕ). c.few_hex_run.result ≤ length rest) all c.few_hex_run.ensures.fits)
