-- A line to testers that are idle: nothing is over with it for them.
use Rattle.std.proofs.Common.{◌≡◌, ◌≤◌, ◌<◌, ◌⊎◌, inl, inr, ℕ, zero, suc, ◌+◌, Option, Some, None, List, [], ◌∷◌, ◌++◌, length, map, refl, ap, ap₂, subst, sym, ◌∙◌, arith}
use Rattle.std.proofs.lemmas.List.{append-nil}
use Rattle.std.proofs.lemmas.Option.{slice_get_within}
use Rattle.std.specs.List.{flat_map}
use Rattle.std.specs.Prelude.{slice_get, slice_set}
use Rattle.diag_can.specs.declared.bus_line.BusLine.{BusLine}
use Rattle.diag_pdu.specs.Cut.{counted_from}
use Rattle.diag_setup.specs.Setup.{ids_of}
use Rattle.diag_setup.specs.declared.raw.RawSetup.{RawSetup}
use Rattle.diag_desk.specs.declared.entry.Entry.{Entry}
use Rattle.diag_world.proofs.Worlds.{set_cases}
use Rattle.diag_bus.specs.Events.{frame_said}
use Rattle.diag_exchange.specs.Over.{Over}
use Rattle.diag_exchange.specs.declared.happening.CaptureLine.{CaptureLine}
use Rattle.diag_judge.specs.Judging.{IsIdle, JudgesLine}
use Rattle.diag_judge.specs.declared.tester.Tester.{Tester}
use Rattle.diag_judge.proofs.Lines.{idle_judged}
use Rattle.diag_compare.specs.Compare.{over_by}
use Rattle.diag_compare.specs.Expects.{expects}
use Rattle.diag_comparing.specs.Idle.{AreIdleOutside, HasNoneOutside, IsOutside, IsWider}
use Rattle.diag_comparing.specs.Keeping.{AreTesters, IsLine, IsTester, IsUnitFrame, bytes_with, judged_pair}
use Rattle.diag_comparing.specs.declared.exchange_lines.UnitFrame.{UnitFrame}
use Rattle.diag_comparing.specs.declared.range.Range.{Range}
use Rattle.diag_comparing.proofs.Takings.{AreTakenTo, over_more, tester_is, judged_is}

no_pairs : (ps : List (ℕ × Over)) → [] ≡ map judged_pair ps → ps ≡ []
no_pairs [] e = refl
no_pairs (p ∷ ps) e = cc

-- what stands at an index
found : {X : Type 0} (xs : List X) (i : ℕ) → i < length xs → (x : X) × (slice_get xs i ≡ Some x)
found [] i less = absurd (omega (arith, less))
found (x ∷ xs) zero less = (x, refl)
found (x ∷ xs) (suc i) less = found xs i (omega (arith, less))

below_or : (i n : ℕ) → (i < n) ⊎ (n ≤ i)
below_or zero zero = inr (omega arith)
below_or zero (suc n) = inl (omega arith)
below_or (suc i) zero = inr (omega arith)
below_or (suc i) (suc n) = elim (below_or i n) [
  | inl less ↦ inl (omega (arith, less))
  | inr more ↦ inr (omega (arith, more))
]

module _ (setup : RawSetup) (lines : List (List ℕ)) (line : List ℕ) (K : List Entry) (said : BusLine) (span : ℕ) (at : CaptureLine)
    (h : IsLine setup lines line said span at K) where
  module _ (t : ℕ) (none : None ≡ bytes_with (ids_of setup t).response (frame_said said)) (own : Tester) (idle : IsIdle own) (is : IsTester setup lines K t own) where
    quiet : JudgesLine setup at t own own [] [] span None
    quiet = idle_judged setup at t own [] span idle.1 idle.0

    idle_tester : IsTester setup (lines ++ line ∷ []) [] t own
    idle_tester = tester_is setup lines line K said span at h t None none own own [] [] is quiet refl idle.0

    idle_over : over_by (expects setup) setup lines line t ≡ []
    idle_over = no_pairs (over_by (expects setup) setup lines line t) (judged_is setup lines line K said span at h t None none own own [] [] is quiet refl idle.0)

  module _ (range : Range) (sent : Option UnitFrame) (frame : IsUnitFrame setup (frame_said said) sent) (none : HasNoneOutside range sent)
      (testers : List Tester) (many : length testers ≡ length setup.testers) (idle : AreIdleOutside range testers) where
    no_bytes : (i : ℕ) → i < length testers → IsOutside range i → None ≡ bytes_with (ids_of setup (i + 1)).response (frame_said said)
    no_bytes i less outside = sym (none i outside) ∙ frame (i + 1) (omega arith, omega (arith, less, many))

    over_none : (i : ℕ) → i < length testers → IsOutside range i → ((own : Tester) → slice_get testers i ≡ Some own → IsTester setup lines K (i + 1) own)
        → over_by (expects setup) setup lines line (i + 1) ≡ []
    over_none i less outside are =
        let own = found testers i less in
        idle_over (i + 1) (no_bytes i less outside) own.0 (idle i own.0 own.1 outside) (are own.0 own.1)

    pub taken_first : (first : ℕ) → ((i : ℕ) → i < first → IsOutside range i) → AreTesters setup lines K testers → AreTakenTo setup lines line K testers first
    taken_first first outside are = λ i own is. (
      λ less. idle_tester (i + 1) (no_bytes i (slice_get_within testers i own is) (outside i less)) own (idle i own is (outside i less)) (are i own is),
      λ above. are i own is,
    )

    pub taken_last : (end : ℕ) → ((i : ℕ) → end ≤ i → i < length testers → IsOutside range i) → AreTakenTo setup lines line K testers end
        → AreTesters setup (lines ++ line ∷ []) [] testers
    taken_last end outside taken = λ i own is. elim (below_or i end) [
      | inl less ↦ (taken i own is).0 less
      | inr above ↦ (
          let within = slice_get_within testers i own is in
          idle_tester (i + 1) (no_bytes i within (outside i above within)) own (idle i own is (outside i above within)) ((taken i own is).1 above))
    ]

    over_same : (m k : ℕ) → ((i : ℕ) → m ≤ i → i < m + k → over_by (expects setup) setup lines line (i + 1) ≡ [])
        → flat_map (over_by (expects setup) setup lines line) (counted_from 1 (m + k)) ≡ flat_map (over_by (expects setup) setup lines line) (counted_from 1 m)
    over_same m zero none = ap (λ n. flat_map (over_by (expects setup) setup lines line) (counted_from 1 n)) (omega arith)
    over_same m (suc k) none =
        let f = over_by (expects setup) setup lines line in
        let next : m + suc k ≡ (m + k) + 1 = omega arith in
        ap (λ n. flat_map f (counted_from 1 n)) next ∙ (over_more setup lines line K (m + k)
        ∙ (ap₂ (λ (x y : List (ℕ × Over)). x ++ y) (over_same m k (λ i from less. none i from (omega (arith, less)))) (none (m + k) (omega arith) (omega arith))
        ∙ append-nil (flat_map f (counted_from 1 m))))

    pub over_first : (first : ℕ) → first ≤ length testers → ((i : ℕ) → i < first → IsOutside range i) → AreTesters setup lines K testers
        → flat_map (over_by (expects setup) setup lines line) (counted_from 1 first) ≡ []
    over_first first most outside are =
        ap (λ n. flat_map (over_by (expects setup) setup lines line) (counted_from 1 n)) (omega arith)
        ∙ over_same 0 first (λ i from less. over_none i (omega (arith, less, most)) (outside i (omega (arith, less))) (λ own is. are i own is))

    pub over_last : (end n : ℕ) → end + n ≡ length testers → ((i : ℕ) → end ≤ i → i < length testers → IsOutside range i) → AreTakenTo setup lines line K testers end
        → flat_map (over_by (expects setup) setup lines line) (counted_from 1 (end + n))
        ≡ flat_map (over_by (expects setup) setup lines line) (counted_from 1 end)
    over_last end n all outside taken =
        over_same end n (λ i from less.
        let within : i < length testers = omega (arith, less, all) in
        over_none i within (outside i from within) (λ own is. (taken i own is).1 from))

-- ---- ranges

-- of those before an index, the ones that aren't idle are in the range
abbrev pub AreLeftTo : Range → ℕ → List Tester → Type 0
AreLeftTo left index testers = (i : ℕ) (own : Tester) → slice_get testers i ≡ Some own → i < index → IsOutside left i → IsIdle own

pub left_one : (left wider : Range) (testers : List Tester) (i : ℕ) (new : Tester) → IsWider left wider → (IsOutside wider i → IsIdle new)
    → AreLeftTo left i testers → AreLeftTo wider (i + 1) (slice_set testers i new)
left_one left wider testers i new all has are = λ k own is less outside. elim (set_cases testers i k new own is) [
  | inl p ↦ subst (λ (x : Tester). IsIdle x) (sym p.1) (has (subst (λ (j : ℕ). IsOutside wider j) p.0 outside))
  | inr p ↦ are k own p.1 (omega (arith, less, p.0)) (all k outside)
]

-- one of the range was changed
pub idle_set : (range : Range) (testers : List Tester) (i : ℕ) (new : Tester) → (IsOutside range i → ⊥) → AreIdleOutside range testers
    → AreIdleOutside range (slice_set testers i new)
idle_set range testers i new has are = λ k own is outside. elim (set_cases testers i k new own is) [
  | inl p ↦ absurd (has (subst (λ (j : ℕ). IsOutside range j) p.0 outside))
  | inr p ↦ are k own p.1 outside
]

-- the range became wider, and one that it has was changed
pub idle_wider : (range wider : Range) (testers : List Tester) (i : ℕ) (new : Tester) → IsWider range wider → (IsOutside wider i → ⊥)
    → AreIdleOutside range testers → AreIdleOutside wider (slice_set testers i new)
idle_wider range wider testers i new all has are = idle_set wider testers i new has (λ k own is outside. are k own is (all k outside))

-- what was written stands there
pub read_set : {X : Type 0} (xs : List X) (i : ℕ) (new read : X) → slice_get (slice_set xs i new) i ≡ Some read → read ≡ new
read_set xs i new read is = elim (set_cases xs i i new read is) [
  | inl p ↦ p.1
  | inr p ↦ absurd (p.0 refl)
]
