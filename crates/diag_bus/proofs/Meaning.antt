-- What a verdict means.
use Rattle.std.proofs.Common.{◌≡◌, ◌≢◌, ◌≤◌, ◌<◌, ◌⊎◌, ℕ, zero, suc, ◌+◌, Bool, true, false, Option, Some, None, List, [], ◌∷◌, ◌++◌, length, map, inl, inr, refl, ap, ap₂, subst, sym, ◌∙◌, arith}
use Rattle.std.proofs.lemmas.Bool.Decides.{nat_tests}
use Rattle.std.proofs.lemmas.Option.{none-some, same_Some}
use Rattle.std.proofs.lemmas.Bool.{true≢false}
use Rattle.std.specs.List.{cons_option, filter_map, fold, reduce}
use Rattle.std.specs.Option.{option_to_list}
use Rattle.std.specs.Prelude.{bytes_eq, if◌then◌else◌, nat_lt, option_map, slice_get}
use Rattle.diag_setup.specs.Setup.{ids_of}
use Rattle.diag_pdu.specs.Cut.{counted_from}
use Rattle.diag_setup.specs.declared.raw.RawSetup.{RawSetup}
use Rattle.diag_ecu.proofs.Unlocking.{bytes_same}
use Rattle.diag_bus.specs.Events.{line_said}
use Rattle.diag_bus.specs.Verdict.{Agree, IsDifferent, IsFirstDifference, IsNumber, Means, VerdictLaw, at_line, bytes_of, difference, difference_of, earlier, expected, first_difference, lack_of, numbers, recorded, recorded_from, reply_said, verdict, verdict_by}
use Rattle.diag_bus.specs.declared.verdict.Recorded.{Recorded}
use Rattle.diag_bus.specs.declared.verdict.Difference.{Difference}
use Rattle.diag_bus.specs.declared.verdict.Verdict.{Verdict}
use Rattle.diag_bus.specs.declared.verdict.Verdict.TheVariants.{Agrees, Lacks}
use Rattle.diag_bus.proofs.Apart.{bytes_self, differs_by}
use Rattle.diag_bus.proofs.Verdicts.{both_none, none_left, unmapped}

-- ---- one tester's lists

-- each frame of the front is the one that is expected at its index
abbrev SameBefore : ℕ → List Recorded → List (List ℕ) → Type 0
SameBefore n frames wanted = (p : ℕ) (f : Recorded) → p < n → slice_get frames p ≡ Some f → slice_get wanted p ≡ Some f.bytes

-- where nothing differs
same_all : (frames : List Recorded) (wanted : List (List ℕ)) → difference frames wanted ≡ None → (p : ℕ) (f : Recorded) → slice_get frames p ≡ Some f
    → slice_get wanted p ≡ Some f.bytes
same_all [] wanted none p f at = absurd (none-some _ at)
same_all (g ∷ frames) [] none p f at = absurd (none-some _ (sym none))
same_all (g ∷ frames) (bytes ∷ wanted) none p f at = pick (bytes_eq g.bytes bytes) refl none (λ rest q here. same_all frames wanted rest q f here) p at
  where
    pick : (b : Bool) → bytes_eq g.bytes bytes ≡ b → (if b then difference frames wanted else Some (differs_by g (Some bytes))) ≡ None
        → (difference frames wanted ≡ None → (q : ℕ) → slice_get frames q ≡ Some f → slice_get wanted q ≡ Some f.bytes)
        → (p : ℕ) → slice_get (g ∷ frames) p ≡ Some f → slice_get (bytes ∷ wanted) p ≡ Some f.bytes
    pick true same rest next zero here = ap Some (sym (bytes_same g.bytes bytes same) ∙ ap bytes_of (same_Some _ _ here))
    pick true same rest next (suc p) here = next rest p here
    pick false same rest next p here = absurd (none-some _ (sym rest))

-- and nothing is missing
agree_all : (frames : List Recorded) (wanted : List (List ℕ)) → difference frames wanted ≡ None → slice_get wanted (length frames) ≡ None
    → map bytes_of frames ≡ wanted
agree_all [] [] none missing = refl
agree_all [] (bytes ∷ wanted) none missing = absurd (none-some _ (sym missing))
agree_all (g ∷ frames) [] none missing = absurd (none-some _ (sym none))
agree_all (g ∷ frames) (bytes ∷ wanted) none missing = pick (bytes_eq g.bytes bytes) refl none (λ rest. agree_all frames wanted rest missing)
  where
    pick : (b : Bool) → bytes_eq g.bytes bytes ≡ b → (if b then difference frames wanted else Some (differs_by g (Some bytes))) ≡ None
        → (difference frames wanted ≡ None → map bytes_of frames ≡ wanted) → map bytes_of (g ∷ frames) ≡ bytes ∷ wanted
    pick true same rest next = ap₂ (λ (b : List ℕ) (bs : List (List ℕ)). b ∷ bs) (bytes_same g.bytes bytes same) (next rest)
    pick false same rest next = absurd (none-some _ (sym rest))

-- where something differs, it is at an index, and in front of it nothing does
record Differing (frames : List Recorded) (wanted : List (List ℕ)) (d : Difference) : Type 0 where
  index : ℕ
  has : slice_get frames index ≡ Some (at_line d.line d.sent)
  wants : slice_get wanted index ≡ d.expected
  other : d.expected ≢ Some d.sent
  before : SameBefore index frames wanted

differing : (frames : List Recorded) (wanted : List (List ℕ)) (d : Difference) → difference frames wanted ≡ Some d → Differing frames wanted d
differing [] wanted d is = absurd (none-some _ is)
differing (g ∷ frames) [] d is =
    let same : differs_by g None ≡ d = same_Some _ _ is in
    subst (Differing (g ∷ frames) []) same (record
    { index = 0; has = refl; wants = refl; other = λ e. none-some _ e; before = λ p f less. absurd (omega (arith, less)) })
differing (g ∷ frames) (bytes ∷ wanted) d is = pick (bytes_eq g.bytes bytes) refl is (λ rest. differing frames wanted d rest)
  where
    unlike : bytes_eq g.bytes bytes ≡ false → Some bytes ≢ Some g.bytes
    unlike other e = true≢false (sym (bytes_self g.bytes) ∙ (ap (bytes_eq g.bytes) (sym (same_Some _ _ e)) ∙ other))

    front : {n : ℕ} → bytes_eq g.bytes bytes ≡ true → SameBefore n frames wanted → SameBefore (suc n) (g ∷ frames) (bytes ∷ wanted)
    front same h zero f less here = ap Some (sym (bytes_same g.bytes bytes same) ∙ ap bytes_of (same_Some _ _ here))
    front same h (suc p) f less here = h p f (omega (arith, less)) here

    pick : (b : Bool) → bytes_eq g.bytes bytes ≡ b → (if b then difference frames wanted else Some (differs_by g (Some bytes))) ≡ Some d
        → (difference frames wanted ≡ Some d → Differing frames wanted d) → Differing (g ∷ frames) (bytes ∷ wanted) d
    pick true same rest next =
        let later = next rest in
        record { index = suc later.index; has = later.has; wants = later.wants; other = later.other; before = front same later.before }
    pick false other rest next =
        let same : differs_by g (Some bytes) ≡ d = same_Some _ _ rest in
        subst (Differing (g ∷ frames) (bytes ∷ wanted)) same
        (record { index = 0; has = refl; wants = refl; other = unlike other; before = λ p f less. absurd (omega (arith, less)) })

-- lists that agree
same_none : (frames : List Recorded) → difference frames (map bytes_of frames) ≡ None
same_none [] = refl
same_none (g ∷ frames) = ap (λ (b : Bool). if b then difference frames (map bytes_of frames) else Some (differs_by g (Some g.bytes)))
    (bytes_self g.bytes) ∙ same_none frames

none_missing : (frames : List Recorded) → slice_get (map bytes_of frames) (length frames) ≡ None
none_missing [] = refl
none_missing (g ∷ frames) = none_missing frames

-- ---- the lines of a recording rise

module _ (setup : RawSetup) (t : ℕ) where
  split : (n : ℕ) (o : Option (List ℕ)) (rest : List Recorded) (p : ℕ) (f : Recorded) → slice_get (option_to_list (option_map (at_line n) o) ++ rest) p ≡ Some f
      → ((p ≡ 0) × (f.line ≡ n)) ⊎ ((q : ℕ) × (q ≤ p) × (slice_get rest q ≡ Some f))
  split n None rest p f at = inr (p, omega arith, at)
  split n (Some bytes) rest zero f at = inl (refl, ap (λ (r : Recorded). r.line) (sym (same_Some _ _ at)))
  split n (Some bytes) rest (suc p) f at = inr (p, omega arith, at)

  from_line : (n : ℕ) (lines : List (List ℕ)) (p : ℕ) (f : Recorded) → slice_get (recorded_from setup t n lines) p ≡ Some f → n ≤ f.line
  from_line n [] p f at = absurd (none-some _ at)
  from_line n (line ∷ lines) p f at = elim (split n (reply_said (ids_of setup t).response (line_said setup line)) (recorded_from setup t (n + 1) lines) p f at) [
    | inl here ↦ omega (arith, here.1)
    | inr later ↦ (let above = from_line (n + 1) lines later.0 f later.2 in omega (arith, above))
  ]

  -- by what the first line has
  step : (n : ℕ) (rest : List Recorded) (f g : Recorded) → ((p : ℕ) → slice_get rest p ≡ Some g → n ≤ g.line)
      → ((p q : ℕ) → p ≤ q → slice_get rest p ≡ Some f → slice_get rest q ≡ Some g → f.line ≤ g.line)
      → (o : Option (List ℕ)) (p q : ℕ) → p ≤ q → slice_get (option_to_list (option_map (at_line n) o) ++ rest) p ≡ Some f
      → slice_get (option_to_list (option_map (at_line n) o) ++ rest) q ≡ Some g → f.line ≤ g.line
  step n rest f g above later None p q le at there = later p q le at there
  step n rest f g above later (Some bytes) zero zero le at there = let same : f ≡ g = same_Some _ _ (sym at ∙ there) in
      omega (arith, ap (λ (r : Recorded). r.line) same)
  step n rest f g above later (Some bytes) zero (suc q) le at there =
      let first : n ≡ f.line = ap (λ (r : Recorded). r.line) (same_Some _ _ at) in
      omega (arith, first, above q there)
  step n rest f g above later (Some bytes) (suc p) zero le at there = absurd (omega (arith, le))
  step n rest f g above later (Some bytes) (suc p) (suc q) le at there = later p q (omega (arith, le)) at there

  rising : (n : ℕ) (lines : List (List ℕ)) (p q : ℕ) (f g : Recorded) → p ≤ q → slice_get (recorded_from setup t n lines) p ≡ Some f
      → slice_get (recorded_from setup t n lines) q ≡ Some g
      → f.line ≤ g.line
  rising n [] p q f g le at there = absurd (none-some _ at)
  rising n (line ∷ lines) p q f g le at there =
      step n (recorded_from setup t (n + 1) lines) f g (λ k is. (let above = from_line (n + 1) lines k g is in omega (arith, above)))
      (λ k j less is at_j. rising (n + 1) lines k j f g less is at_j) (reply_said (ids_of setup t).response (line_said setup line)) p q le at there

-- ---- the first of all testers' differences

here_or_later : (a t : ℕ) → a ≤ t → (t ≡ a) ⊎ (suc a ≤ t)
here_or_later a t le = pick (nat_lt a t) refl
  where
    pick : (b : Bool) → nat_lt a t ≡ b → (t ≡ a) ⊎ (suc a ≤ t)
    pick true e = inr (grind (arith, nat_tests))
    pick false e = inl (let under : t ≤ a = grind (arith, nat_tests) in omega (arith, under, le))

earlier_cases : (a b : ℕ × Difference) → ((earlier a b ≡ a) × (a.1.line ≤ b.1.line)) ⊎ ((earlier a b ≡ b) × (b.1.line ≤ a.1.line))
earlier_cases a b = pick (nat_lt b.1.line a.1.line) refl
  where
    pick : (t : Bool) → nat_lt b.1.line a.1.line ≡ t
        → (((if t then b else a) ≡ a) × (a.1.line ≤ b.1.line)) ⊎ (((if t then b else a) ≡ b) × (b.1.line ≤ a.1.line))
    pick true e = inr (refl, (let under : b.1.line < a.1.line = grind (arith, nat_tests) in omega (arith, under)))
    pick false e = inl (refl, grind (arith, nat_tests))

-- what is found at n numbers from a on
record Found {X : Type 0} (g : ℕ → Option X) (a n : ℕ) (x : X) : Type 0 where
  at : ℕ
  low : a ≤ at
  high : at < a + n
  gives : g at ≡ Some x

Least : (ℕ → Option (ℕ × Difference)) → ℕ → ℕ → ℕ × Difference → Type 0
Least g a n r = (t : ℕ) (x : ℕ × Difference) → a ≤ t → t < a + n → g t ≡ Some x → r.1.line ≤ x.1.line

abbrev found_later : {X : Type 0} (g : ℕ → Option X) (a n : ℕ) (x : X) → Found g (suc a) n x → Found g a (suc n) x
found_later g a n x f = record { at = f.at; low = omega (arith, f.low); high = omega (arith, f.high); gives = f.gives }

abbrev found_here : {X : Type 0} (g : ℕ → Option X) (a n : ℕ) (x : X) → g a ≡ Some x → Found g a (suc n) x
found_here g a n x is = record { at = a; low = omega arith; high = omega arith; gives = is }

least_later : (g : ℕ → Option (ℕ × Difference)) (a n : ℕ) (r : ℕ × Difference) → ((x : ℕ × Difference) → g a ≡ Some x → r.1.line ≤ x.1.line)
    → Least g (suc a) n r → Least g a (suc n) r
unfolding Least
least_later g a n r here later t x low high is = elim (here_or_later a t low) [
  | inl e ↦ here x (ap g (sym e) ∙ is)
  | inr above ↦ later t x above (omega (arith, high)) is
]

-- from a first on
record Folded (g : ℕ → Option (ℕ × Difference)) (a n : ℕ) (first r : ℕ × Difference) : Type 0 where
  below : r.1.line ≤ first.1.line
  least : Least g a n r
  found : (r ≡ first) ⊎ Found g a n r

line_same : {a b : ℕ × Difference} → a ≡ b → a.1.line ≡ b.1.line
line_same e = ap (λ (d : ℕ × Difference). d.1.line) e

folded : (g : ℕ → Option (ℕ × Difference)) (a n : ℕ) (first r : ℕ × Difference) → fold earlier first (filter_map g (counted_from a n)) ≡ r
    → Folded g a n first r
unfolding Least
folded g a zero first r is = record {
  below = omega (arith, line_same is);
  least = λ t x low high at. absurd (omega (arith, low, high));
  found = inl (sym is);
}
folded g a (suc n) first r is = pick (g a) refl is (λ next e. folded g (suc a) n next r e)
  where
    pick : (o : Option (ℕ × Difference)) → g a ≡ o → fold earlier first (cons_option o (filter_map g (counted_from (suc a) n))) ≡ r
        → ((next : ℕ × Difference) → fold earlier next (filter_map g (counted_from (suc a) n)) ≡ r → Folded g (suc a) n next r) → Folded g a (suc n) first r
    pick None none e later =
        let f = later first e in
        record {
          below = f.below;
          least = least_later g a n r (λ x at. absurd (none-some _ (sym none ∙ at))) f.least;
          found = elim f.found [ inl same ↦ inl same | inr there ↦ inr (found_later g a n r there) ];
        }
    pick (Some x) some e later =
        let f = later (earlier first x) e in
        elim (earlier_cases first x) [
          | inl kept ↦ (
              let same : (earlier first x).1.line ≡ first.1.line = line_same kept.0 in
              record {
                below = omega (arith, f.below, same);
                least = least_later g a n r (λ y at. (let here : x.1.line ≡ y.1.line = line_same (same_Some _ _ (sym some ∙ at)) in
                    omega (arith, f.below, same, kept.1, here))) f.least;
                found = elim f.found [ inl is ↦ inl (is ∙ kept.0) | inr there ↦ inr (found_later g a n r there) ];
              })
          | inr took ↦ (
              let same : (earlier first x).1.line ≡ x.1.line = line_same took.0 in
              record {
                below = omega (arith, f.below, same, took.1);
                least = least_later g a n r (λ y at. (let here : x.1.line ≡ y.1.line = line_same (same_Some _ _ (sym some ∙ at)) in
                    omega (arith, f.below, same, here))) f.least;
                found = elim f.found [ inl is ↦ inr (found_here g a n r (some ∙ ap Some (sym (is ∙ took.0)))) | inr there ↦ inr (found_later g a n r there) ];
              })
        ]

reduced : (g : ℕ → Option (ℕ × Difference)) (a n : ℕ) (r : ℕ × Difference) → reduce earlier (filter_map g (counted_from a n)) ≡ Some r
    → Found g a n r × Least g a n r
unfolding Least
reduced g a zero r is = absurd (none-some _ is)
reduced g a (suc n) r is = pick (g a) refl is (λ e. reduced g (suc a) n r e)
  where
    pick : (o : Option (ℕ × Difference)) → g a ≡ o → reduce earlier (cons_option o (filter_map g (counted_from (suc a) n))) ≡ Some r
        → (reduce earlier (filter_map g (counted_from (suc a) n)) ≡ Some r → Found g (suc a) n r × Least g (suc a) n r)
        → Found g a (suc n) r × Least g a (suc n) r
    pick None none e later =
        let f = later e in
        (found_later g a n r f.0, least_later g a n r (λ x at. absurd (none-some _ (sym none ∙ at))) f.1)
    pick (Some x) some e later =
        let f = folded g (suc a) n x r (same_Some _ _ e) in (
          elim f.found [ inl is ↦ found_here g a n r (some ∙ ap Some (sym is)) | inr there ↦ found_later g a n r there ],
          least_later g a n r (λ y at. (let here : x.1.line ≡ y.1.line = line_same (same_Some _ _ (sym some ∙ at)) in omega (arith, f.below, here))) f.least,
        )

-- ---- the first that is found

none_found : {X : Type 0} (g : ℕ → Option X) (a n : ℕ) → filter_map g (counted_from a n) ≡ [] → (t : ℕ) → a ≤ t → t < a + n → g t ≡ None
none_found g a zero none t low high = absurd (omega (arith, low, high))
none_found {X} g a (suc n) none t low high = elim (here_or_later a t low) [
  | inl e ↦ ap g e ∙ (both_none (g a) (filter_map g (counted_from (suc a) n)) none).0
  | inr above ↦ none_found g (suc a) n (both_none (g a) (filter_map g (counted_from (suc a) n)) none).1 t above (omega (arith, high))
]

-- the first of all that are found
record FirstFound {X : Type 0} (g : ℕ → Option X) (a n : ℕ) (x : X) : Type 0 where
  there : Found g a n x
  before : (t : ℕ) → a ≤ t → t < there.at → g t ≡ None

first_found : {X : Type 0} (g : ℕ → Option X) (a n : ℕ) (x : X) (xs : List X) → filter_map g (counted_from a n) ≡ x ∷ xs → FirstFound g a n x
first_found g a zero x xs is = absurd (omega (arith, ap length is))
first_found {X} g a (suc n) x xs is = pick (g a) refl is (λ e. first_found g (suc a) n x xs e)
  where
    pick : (o : Option X) → g a ≡ o → cons_option o (filter_map g (counted_from (suc a) n)) ≡ x ∷ xs
        → (filter_map g (counted_from (suc a) n) ≡ x ∷ xs → FirstFound g (suc a) n x) → FirstFound g a (suc n) x
    pick None none e later =
        let f = later e in
        record {
          there = found_later g a n x f.there;
          before = λ t low high. elim (here_or_later a t low) [ inl same ↦ ap g same ∙ none | inr above ↦ f.before t above high ];
        }
    pick (Some y) some e later =
        let same : y ≡ x = cc in
        record { there = found_here g a n x (some ∙ ap Some same); before = λ t low high. absurd (omega (arith, low, high)) }

all_none : {X : Type 0} (g : ℕ → Option X) (a n : ℕ) → ((t : ℕ) → a ≤ t → t < a + n → g t ≡ None) → filter_map g (counted_from a n) ≡ []
all_none g a zero none = refl
all_none g a (suc n) none =
    ap (λ o. cons_option o (filter_map g (counted_from (suc a) n))) (none a (omega arith) (omega arith))
    ∙ all_none g (suc a) n (λ t low high. none t (omega (arith, low)) (omega (arith, high)))

mapped_from : {X Y : Type 0} (f : X → Y) (o : Option X) (y : Y) → option_map f o ≡ Some y → (x : X) × (o ≡ Some x) × (f x ≡ y)
mapped_from f None y e = absurd (none-some _ e)
mapped_from f (Some x) y e = (x, refl, same_Some _ _ e)

-- ---- of all testers

module _ (setup : RawSetup) (lines : List (List ℕ)) where
  -- a tester's frame that differs is no earlier than the tester's first difference, and there is one
  differs_later : (u : ℕ) (frame : Recorded) (wanted : Option (List ℕ)) → IsDifferent setup lines u frame wanted
      → (d : Difference) × (difference (recorded setup lines u) (expected setup lines u) ≡ Some d) × (d.line ≤ frame.line)
  differs_later u frame wanted h = pick (difference (recorded setup lines u) (expected setup lines u)) refl
    where
      pick : (o : Option Difference) → difference (recorded setup lines u) (expected setup lines u) ≡ o
          → (d : Difference) × (difference (recorded setup lines u) (expected setup lines u) ≡ Some d) × (d.line ≤ frame.line)
      pick None none = absurd (h.other (sym h.wants ∙ same_all (recorded setup lines u) (expected setup lines u) none h.index frame h.has))
      pick (Some d) is =
          let first = differing (recorded setup lines u) (expected setup lines u) d is in
          elim (order first.index h.index) [
            | inl le ↦ (d, is, rising setup u 1 lines first.index h.index (at_line d.line d.sent) frame le first.has h.has)
            | inr less ↦ absurd (h.other (sym h.wants ∙ first.before h.index frame less h.has))
          ]
        where
          order : (p q : ℕ) → (p ≤ q) ⊎ (q < p)
          order p q = test (nat_lt q p) refl
            where
              test : (b : Bool) → nat_lt q p ≡ b → (p ≤ q) ⊎ (q < p)
              test true e = inr (grind (arith, nat_tests))
              test false e = inl (grind (arith, nat_tests))

  means_first : (r : ℕ × Difference) → first_difference setup lines ≡ Some r → IsFirstDifference setup lines r.0 r.1
  unfolding Least
  means_first r is =
      let all = reduced (difference_of setup lines) 1 (length setup.testers) r is in
      let t = all.0.at in
      let from = mapped_from (λ (d : Difference). (t, d)) (difference (recorded setup lines t) (expected setup lines t)) r all.0.gives in
      let d = from.0 in
      let same : (t, d) ≡ r = from.2 in
      let own = differing (recorded setup lines t) (expected setup lines t) d from.1 in
      let line : d.line ≡ r.1.line = ap (λ (x : ℕ × Difference). x.1.line) same in
      subst (λ (x : ℕ × Difference). IsFirstDifference setup lines x.0 x.1) same (record {
        differs = record { tester = (all.0.low, omega (arith, all.0.high)); index = own.index; has = own.has; wants = own.wants; other = own.other };
        first = λ u frame wanted h.
            let other = differs_later u frame wanted h in
            let least = all.1 u (u, other.0) h.tester.0 (omega (arith, h.tester.1)) (ap (option_map (λ (x : Difference). (u, x))) other.1) in
            omega (arith, line, least, other.2);
      })

  module _ (none : first_difference setup lines ≡ None) where
    no_differences : filter_map (difference_of setup lines) (numbers setup) ≡ []
    no_differences = none_left (filter_map (difference_of setup lines) (numbers setup)) none

    none_of_it : (t : ℕ) → IsNumber setup t → difference (recorded setup lines t) (expected setup lines t) ≡ None
    none_of_it t number =
        unmapped (λ (d : Difference). (t, d)) (difference (recorded setup lines t) (expected setup lines t))
        (none_found (difference_of setup lines) 1 (length setup.testers) no_differences t number.0 (omega (arith, number.1)))

    agrees_at : (t : ℕ) → IsNumber setup t → lack_of setup lines t ≡ None → Agree setup lines t
    agrees_at t number missing =
        agree_all (recorded setup lines t) (expected setup lines t) (none_of_it t number)
        (unmapped (Lacks t (length (recorded setup lines t))) (slice_get (expected setup lines t) (length (recorded setup lines t))) missing)

    none_differs : (u : ℕ) (frame : Recorded) (wanted : Option (List ℕ)) → ¬ IsDifferent setup lines u frame wanted
    none_differs u frame wanted h = none-some _ (sym (none_of_it u h.tester) ∙ (differs_later u frame wanted h).1)

    means_rest : (lacks : List Verdict) → filter_map (lack_of setup lines) (numbers setup) ≡ lacks → Means setup lines (verdict_by None lacks)
    means_rest [] are = λ t number. agrees_at t number (none_found (lack_of setup lines) 1 (length setup.testers) are t number.0 (omega (arith, number.1)))
    means_rest (v ∷ lacks) are =
        let first = first_found (lack_of setup lines) 1 (length setup.testers) v lacks are in
        let t = first.there.at in
        let from = mapped_from (Lacks t (length (recorded setup lines t))) (slice_get (expected setup lines t) (length (recorded setup lines t))) v
        first.there.gives in
        let next = from.0 in
        subst (Means setup lines) from.2 (record {
          tester = (first.there.low, omega (arith, first.there.high));
          has = refl;
          wants = from.1;
          same = none_differs;
          first = λ u number less. agrees_at u number (first.before u number.0 less);
        })

  means : Means setup lines (verdict setup lines)
  means = pick (first_difference setup lines) refl
    where
      pick : (o : Option (ℕ × Difference)) → first_difference setup lines ≡ o
          → Means setup lines (verdict_by o (filter_map (lack_of setup lines) (numbers setup)))
      pick (Some r) is = means_first r is
      pick None none = means_rest none (filter_map (lack_of setup lines) (numbers setup)) refl

  all_agree : ((t : ℕ) → IsNumber setup t → Agree setup lines t) → verdict setup lines ≡ Agrees
  all_agree agree =
      let differ = all_none (difference_of setup lines) 1 (length setup.testers) (λ t low high.
      let e = agree t (low, omega (arith, high)) in
      ap (option_map (λ (d : Difference). (t, d))) (ap (difference (recorded setup lines t)) (sym e) ∙ same_none (recorded setup lines t))) in
      let miss = all_none (lack_of setup lines) 1 (length setup.testers) (λ t low high.
      let e = agree t (low, omega (arith, high)) in
      ap (option_map (Lacks t (length (recorded setup lines t))))
      (ap (λ (w : List (List ℕ)). slice_get w (length (recorded setup lines t))) (sym e) ∙ none_missing (recorded setup lines t))) in
      ap₂ verdict_by (ap (reduce earlier) differ) miss

pub meaning : VerdictLaw
meaning setup lines = (means setup lines, all_agree setup lines)
