-- The lines of exchanges that are over with a line.
use Rattle.std.proofs.Common.{◌≡◌, ◌≤◌, ◌<◌, ◌⊎◌, inl, inr, ℕ, zero, suc, ◌+◌, Bool, true, false, Option, Some, None, List, [], ◌∷◌, ◌++◌, length, map, take, refl, ap, ap₂, subst, sym, ◌∙◌, append_assoc, arith}
use Rattle.std.proofs.lemmas.List.{append-nil, length-append, take_all, take-append-le}
use Rattle.std.proofs.lemmas.Bool.Decides.{nat_tests}
use Rattle.std.specs.List.{filter, flat_map}
use Rattle.std.specs.Prelude.{◌&&◌, ◌||◌, if◌then◌else◌, nat_le, nat_lt, not, Ok, Err, Result, IfSome}
use Rattle.diag_can.specs.declared.bus_line.BusLine.{BusLine}
use Rattle.diag_can.specs.declared.bus_line.BusLine.TheVariants as said
use Rattle.diag_can.specs.declared.fault.LineFault.{LineFault}
use Rattle.diag_setup.specs.Rows.{in_order, insert_in_order}
use Rattle.diag_setup.specs.Setup.{name_of}
use Rattle.diag_setup.specs.declared.raw.RawSetup.{RawSetup}
use Rattle.diag_bus.specs.Events.{line_said}
use Rattle.diag_bus.specs.Text.{bus_moment, start_after, start_said}
use Rattle.diag_bus.specs.declared.clock.Start.{Start}
use Rattle.diag_exchange.specs.Agreeing.{agrees}
use Rattle.diag_exchange.specs.Over.{Over}
use Rattle.diag_judge.specs.declared.tester.Judged.{Judged}
use Rattle.diag_told.specs.Told.{capture_line_told, told_text}
use Rattle.diag_compare.specs.Compare.{compared_after, compared_by, is_told, lines_of}
use Rattle.diag_compare.specs.Expects.{expects}
use Rattle.diag_comparing.specs.Keeping.{HasStamps, judged_number, judged_pair, line_at, lines_at, stamped_by, start_from, written_at}
use Rattle.diag_compare.specs.Told.{line_number, told_line}
use Rattle.diag_comparing.specs.declared.stamps.FirstStamp.{FirstStamp}
use Rattle.diag_comparing.specs.declared.stamps.Stamps.{Stamps}

-- ---- in order

-- one exchange or none is
pub few_in_order : (batch : List Judged) → length batch < 2 → batch ≡ in_order judged_number batch
few_in_order [] few = refl
few_in_order (judged ∷ []) few = refl
few_in_order (judged ∷ other ∷ others) few = absurd (omega (arith, few))

put_pairs : (x : ℕ × Over) (ys : List (ℕ × Over)) → insert_in_order judged_number (judged_pair x) (map judged_pair ys) ≡ map judged_pair (insert_in_order line_number x ys)
put_pairs x [] = refl
put_pairs x (y ∷ ys) = pick (nat_le (line_number x) (line_number y)) (put_pairs x ys)
  where
    pick : (b : Bool) → insert_in_order judged_number (judged_pair x) (map judged_pair ys) ≡ map judged_pair (insert_in_order line_number x ys)
        → (if b then judged_pair x ∷ judged_pair y ∷ map judged_pair ys else judged_pair y ∷ insert_in_order judged_number (judged_pair x) (map judged_pair ys))
        ≡ map judged_pair (if b then x ∷ y ∷ ys else y ∷ insert_in_order line_number x ys)
    pick true rest = refl
    pick false rest = ap (λ w. judged_pair y ∷ w) rest

pub order_pairs : (pairs : List (ℕ × Over)) → in_order judged_number (map judged_pair pairs) ≡ map judged_pair (in_order line_number pairs)
order_pairs [] = refl
order_pairs (x ∷ xs) = ap (insert_in_order judged_number (judged_pair x)) (order_pairs xs) ∙ put_pairs x (in_order line_number xs)

-- ---- where the bus's time begins

abbrev known : FirstStamp → ℕ → Option Start
known first n = if nat_lt n first.line then None else Some first.start

early : (first : FirstStamp) (n : ℕ) → n < first.line → known first n ≡ None
early first n less = grind (arith, nat_tests)

late : (first : FirstStamp) (n : ℕ) → first.line ≤ n → known first n ≡ Some first.start
late first n le = grind (arith, nat_tests)

split : (n m : ℕ) → (n ≤ m) ⊎ (m < n)
split zero m = inl (omega arith)
split (suc n) zero = inr (omega arith)
split (suc n) (suc m) = elim (split n m) [
  | inl le ↦ inl (omega (arith, le))
  | inr less ↦ inr (omega (arith, less))
]

module _ (setup : RawSetup) where
  said_stays : (before : ℕ) (r : Result BusLine LineFault) (xs ys : List (List ℕ)) (s : Start)
      → ((sum : ℕ) → start_after setup sum xs ≡ Some s → start_after setup sum (xs ++ ys) ≡ Some s)
      → start_said before r (λ sum. start_after setup sum xs) ≡ Some s → start_said before r (λ sum. start_after setup sum (xs ++ ys)) ≡ Some s
  said_stays before (Ok (said.Stamped moment frame)) xs ys s later e = e
  said_stays before (Ok (said.Ticks count)) xs ys s later e = later (before + count) e
  said_stays before (Ok said.Empty) xs ys s later e = later before e
  said_stays before (Err fault) xs ys s later e = later before e

  start_stays : (before : ℕ) (xs ys : List (List ℕ)) (s : Start) → start_after setup before xs ≡ Some s → start_after setup before (xs ++ ys) ≡ Some s
  start_stays before [] ys s e = cc
  start_stays before (x ∷ xs) ys s e = said_stays before (line_said setup x) xs ys s (λ sum given. start_stays sum xs ys s given) e

  -- it is known so far
  abbrev Known : Option FirstStamp → List (List ℕ) → Type 0
  Known f lines = IfSome f (λ first. first.line ≤ length lines) × ((n : ℕ) → start_after setup 0 (take n lines) ≡ start_from f n)

module _ (setup : RawSetup) (lines : List (List ℕ)) (line : List ℕ) where
  abbrev all : List (List ℕ)
  all = lines ++ line ∷ []

  longer : length all ≡ length lines + 1
  longer = length-append lines (line ∷ [])

  before_it : (n : ℕ) → n ≤ length lines → start_after setup 0 (take n all) ≡ start_after setup 0 (take n lines)
  before_it n le = ap (start_after setup 0) (take-append-le n lines (line ∷ []) le)

  from_it : (n : ℕ) → length lines < n → start_after setup 0 (take n all) ≡ start_after setup 0 all
  from_it n less = ap (start_after setup 0) (take_all n all (omega (arith, less, longer)))

  known_more : (f : Option FirstStamp) (start : Option Start) → start ≡ start_after setup 0 all → Known setup f lines
      → Known setup (stamped_by f (length lines + 1) start) all
  known_more (Some first) start e h = (
    omega (arith, h.0, longer),
    λ n. elim (split n (length lines)) [
      | inl le ↦ before_it n le ∙ h.1 n
      | inr less ↦ (
          let here : start_after setup 0 lines ≡ Some first.start =
          sym (ap (start_after setup 0) (take_all (length lines) lines (omega arith))) ∙ (h.1 (length lines) ∙ late first (length lines) h.0) in
          from_it n less ∙ (start_stays setup 0 lines (line ∷ []) first.start here ∙ sym (late first n (omega (arith, less, h.0)))))
    ],
  )
  known_more None None e h = (
    tt,
    λ n. elim (split n (length lines)) [
      | inl le ↦ before_it n le ∙ h.1 n
      | inr less ↦ from_it n less ∙ sym e
    ],
  )
  known_more None (Some s) e h = (
    omega (arith, longer),
    λ n. elim (split n (length lines)) [
      | inl le ↦ before_it n le ∙ (h.1 n ∙ sym (early (record { line = length lines + 1; start = s }) n (omega (arith, le))))
      | inr less ↦ from_it n less ∙ (sym e ∙ sym (late (record { line = length lines + 1; start = s }) n (omega (arith, less))))
    ],
  )

  pub stamps_more : (old new : Stamps) (number : ℕ) (start : Option Start) → number ≡ length lines + 1 → start ≡ start_after setup 0 all
      → new.first ≡ stamped_by old.first number start → HasStamps setup old lines → HasStamps setup new all
  stamps_more old new number start is e taken h =
      let now = taken ∙ ap (λ n. stamped_by old.first n start) is in
      let both = subst (λ (f : Option FirstStamp). Known setup f all) (sym now) (known_more old.first start e (h.within, h.start)) in
      record { within = both.0; start = both.1 }

pub no_stamps : (setup : RawSetup) (stamps : Stamps) → stamps.first ≡ None → HasStamps setup stamps []
no_stamps setup stamps e =
    let both : Known setup stamps.first [] = subst (λ (f : Option FirstStamp). Known setup f []) (sym e) (tt, λ n. ap (start_after setup 0) (none_of n)) in
    record { within = both.0; start = both.1 }
  where
    none_of : (n : ℕ) → take {A = List ℕ} n [] ≡ []
    none_of zero = refl
    none_of (suc n) = refl

-- ---- lines

module _ (setup : RawSetup) (stamps : Stamps) (lines : List (List ℕ)) (differences : Bool) (h : HasStamps setup stamps lines) where
  -- an exchange's line is the one by where the bus's time begins
  same_line : (pair : ℕ × Over) → line_at setup stamps (judged_pair pair) ≡ told_line setup lines pair
  same_line pair =
      ap (λ s. told_text (name_of setup pair.0) (bus_moment s (capture_line_told pair.1).moment) (agrees pair.1) pair.1)
      (sym (h.start (capture_line_told pair.1).number))

  same_written : (pair : ℕ × Over) (d a : Bool) → d ≡ differences → a ≡ agrees pair.1 → (rest rest' : List ℕ) → rest ≡ rest'
      → (if d && a then [] else line_at setup stamps (judged_pair pair)) ++ rest
      ≡ (if not d || not a then told_line setup lines pair ++ rest' else rest')
  same_written pair true true d a rest rest' e = e
  same_written pair true false d a rest rest' e = ap₂ (λ (x y : List ℕ). x ++ y) (same_line pair) e
  same_written pair false true d a rest rest' e = ap₂ (λ (x y : List ℕ). x ++ y) (same_line pair) e
  same_written pair false false d a rest rest' e = ap₂ (λ (x y : List ℕ). x ++ y) (same_line pair) e

  told_if : (pair : ℕ × Over) (pairs : List (ℕ × Over)) (b : Bool)
      → flat_map (told_line setup lines) (if b then pair ∷ pairs else pairs)
      ≡ (if b then told_line setup lines pair ++ flat_map (told_line setup lines) pairs else flat_map (told_line setup lines) pairs)
  told_if pair pairs true = refl
  told_if pair pairs false = refl

  same_lines : (pairs : List (ℕ × Over)) → flat_map (written_at setup stamps differences) (map judged_pair pairs)
      ≡ flat_map (told_line setup lines) (filter (is_told differences) pairs)
  same_lines [] = refl
  same_lines (pair ∷ pairs) =
      same_written pair differences (agrees pair.1) refl refl (flat_map (written_at setup stamps differences) (map judged_pair pairs))
      (flat_map (told_line setup lines) (filter (is_told differences) pairs)) (same_lines pairs)
      ∙ sym (told_if pair (filter (is_told differences) pairs) (is_told differences pair))

  -- what is written of a batch is what the definition tells of its exchanges
  pub lines_same : (pairs : List (ℕ × Over)) → lines_at setup stamps differences (map judged_pair pairs)
      ≡ lines_of (expects setup) setup differences lines pairs
  lines_same pairs = ap (flat_map (written_at setup stamps differences)) (order_pairs pairs) ∙ same_lines (in_order line_number pairs)

-- ---- one line behind the other

pub compared_push : (setup : RawSetup) (differences : Bool) (past lines : List (List ℕ)) (line : List ℕ)
    → compared_after (expects setup) setup differences past (lines ++ line ∷ [])
    ≡ compared_after (expects setup) setup differences past lines ++ compared_by (expects setup) setup differences (past ++ lines) line
compared_push setup differences past [] line =
    append-nil (compared_by (expects setup) setup differences past line)
    ∙ ap (λ w. compared_by (expects setup) setup differences w line) (sym (append-nil past))
compared_push setup differences past (first ∷ lines) line =
    let here = compared_by (expects setup) setup differences past first in
    ap (λ w. here ++ w) (compared_push setup differences (past ++ first ∷ []) lines line
    ∙ ap (λ w. compared_after (expects setup) setup differences (past ++ first ∷ []) lines ++ compared_by (expects setup) setup differences w line)
    (append_assoc past (first ∷ []) lines))
    ∙ sym (append_assoc here (compared_after (expects setup) setup differences (past ++ first ∷ []) lines)
    (compared_by (expects setup) setup differences (past ++ first ∷ lines) line))
