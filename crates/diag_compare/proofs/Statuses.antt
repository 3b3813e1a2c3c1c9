-- What a status means.
use Rattle.std.proofs.Common.{◌≡◌, ◌≤◌, ◌<◌, ◌⊎◌, inl, inr, ℕ, zero, suc, ◌+◌, Bool, true, false, List, [], ◌∷◌, length, refl, ap, sym, ◌∙◌, arith}
use Rattle.std.proofs.lemmas.Bool.{false_from_ne_true, not-false, not-true, or_from, or_left, or_parts, or_right}
use Rattle.std.proofs.lemmas.List.Elements.{All-cons, All-head, All-nil, All-tail}
use Rattle.std.proofs.lemmas.List.Folds.{Any-from_list_any, list_any-append, list_any-from_Any}
use Rattle.std.specs.List.{All, Any, flat_map, list_any}
use Rattle.std.specs.Prelude.{if◌then◌else◌, not, ◌&&◌, ◌||◌}
use Rattle.diag_pdu.specs.Cut.{counted_from}
use Rattle.diag_setup.specs.declared.raw.RawSetup.{RawSetup}
use Rattle.diag_ecu.specs.State.{State}
use Rattle.diag_desk.specs.declared.entry.Entry.{Entry}
use Rattle.diag_exchange.specs.Agreeing.{agrees, is_compared}
use Rattle.diag_exchange.specs.Meaning.{Means}
use Rattle.diag_exchange.specs.declared.happening.Expected.{Expected}
use Rattle.diag_exchange.specs.Over.{Over}
use Rattle.diag_exchange.proofs.Meanings.{meant, means}
use Rattle.diag_judge.specs.Judging.{differs}
use Rattle.diag_compare.specs.Compare.{all_exchanges, any_differs, exchanges, status}
use Rattle.diag_compare.specs.Meaning.{AllAgree, SomeCompared, SomeDiffers, StatusMeans}

-- ---- over lists

least : (a t : ℕ) → a ≤ t → (a ≡ t) ⊎ (suc a ≤ t)
least zero zero low = inl refl
least zero (suc t) low = inr (omega arith)
least (suc a) zero low = absurd (omega (arith, low))
least (suc a) (suc t) low = elim (least a t (omega (arith, low))) [
  | inl e ↦ inl (ap suc e)
  | inr l ↦ inr (omega (arith, l))
]

not_both : (b : Bool) → b ≡ true → b ≡ false → ⊥
not_both true e f = cc
not_both false e f = cc

-- a list of these numbers' lists that has some with a property
record Found (p : Over → Bool) (f : ℕ → List Over) (a n : ℕ) : Type 0 where
  at : ℕ
  low : a ≤ at
  high : at < a + n
  some : list_any p (f at) ≡ true

module _ (p : Over → Bool) (f : ℕ → List Over) where
  found_here : (a n : ℕ) (b : Bool) → list_any p (f a) ≡ b → (b || list_any p (flat_map f (counted_from (suc a) n))) ≡ true
      → (list_any p (flat_map f (counted_from (suc a) n)) ≡ true → Found p f (suc a) n)
      → Found p f a (suc n)
  found_here a n true is e rest = record { at = a; low = omega arith; high = omega arith; some = is }
  found_here a n false is e rest =
      let later = rest e in
      record { at = later.at; low = omega (arith, later.low); high = omega (arith, later.high); some = later.some }

  found_in : (a n : ℕ) → list_any p (flat_map f (counted_from a n)) ≡ true → Found p f a n
  found_in a zero e = cc
  found_in a (suc n) e =
      found_here a n (list_any p (f a)) refl (sym (list_any-append p (f a) (flat_map f (counted_from (suc a) n))) ∙ e) (λ later. found_in (suc a) n later)

  is_found : (a n t : ℕ) → a ≤ t → t < a + n → list_any p (f t) ≡ true → list_any p (flat_map f (counted_from a n)) ≡ true
  is_found a zero t low high e = absurd (omega (arith, low, high))
  is_found a (suc n) t low high e =
      let others = flat_map f (counted_from (suc a) n) in
      list_any-append p (f a) others
      ∙ elim (least a t low) [
        | inl same ↦ or_left (list_any p (f a)) (list_any p others) (ap (λ u. list_any p (f u)) same ∙ e)
        | inr later ↦ or_right (list_any p (f a)) (list_any p others) (is_found (suc a) n t later (omega (arith, high)) e)
      ]

-- ---- an exchange

differs_not : (o : Over) → differs o ≡ true → Means o → ⊥
differs_not o e m = not_both (agrees o) (meant o m) (not-true (agrees o) e)

not_differs : (o : Over) → (Means o → ⊥) → differs o ≡ true
not_differs o never = ap not (false_from_ne_true (agrees o) (λ e. never (means o e)))

no_difference : (o : Over) → differs o ≡ false → Means o
no_difference o e = means o (not-false (agrees o) e)

all_mean : (os : List Over) → list_any differs os ≡ false → All Means os
all_mean [] e = All-nil Means
all_mean (o ∷ os) e =
    All-cons Means o os (no_difference o (or_parts (differs o) (list_any differs os) e).0) (all_mean os (or_parts (differs o) (list_any differs os) e).1)

none_differs : (os : List Over) → All Means os → list_any differs os ≡ false
none_differs [] h = refl
none_differs (o ∷ os) h =
    or_from (differs o) (list_any differs os) (false_from_ne_true (differs o) (λ e. differs_not o e (All-head Means o os h))) (none_differs os (All-tail Means o os h))

any_to : (P Q : Over → Type 0) → ((o : Over) → P o → Q o) → (os : List Over) → Any P os → Any Q os
any_to P Q go os h = (h.0, h.1, h.2, h.3, go h.1 h.4)

-- ---- the status

module _ (expects : State → Entry → Expected) (setup : RawSetup) (lines : List (List ℕ)) where
  abbrev of : ℕ → List Over
  of = exchanges expects setup lines

  abbrev some_differs : Bool
  some_differs = any_differs expects setup lines

  abbrev some_compared : Bool
  some_compared = list_any is_compared (all_exchanges expects setup lines)

  abbrev many : ℕ
  many = length setup.testers

  differ_to : some_differs ≡ true → SomeDiffers expects setup lines
  differ_to e =
      let found = found_in differs of 1 many e in
      record {
        tester = found.at;
        number = (found.low, omega (arith, found.high));
        differs = any_to (λ o. differs o ≡ true) (λ o. Means o → ⊥) differs_not (of found.at) (Any-from_list_any differs (of found.at) found.some);
      }

  differ_from : SomeDiffers expects setup lines → some_differs ≡ true
  differ_from h =
      is_found differs of 1 many h.tester h.number.0 (omega (arith, h.number.1))
      (list_any-from_Any differs (of h.tester) (any_to (λ o. Means o → ⊥) (λ o. differs o ≡ true) not_differs (of h.tester) h.differs))

  compared_to : some_compared ≡ true → SomeCompared expects setup lines
  compared_to e =
      let found = found_in is_compared of 1 many e in
      record {
        tester = found.at;
        number = (found.low, omega (arith, found.high));
        compared = Any-from_list_any is_compared (of found.at) found.some;
      }

  compared_from : SomeCompared expects setup lines → some_compared ≡ true
  compared_from h =
      is_found is_compared of 1 many h.tester h.number.0 (omega (arith, h.number.1)) (list_any-from_Any is_compared (of h.tester) h.compared)

  agree_to : some_differs ≡ false → AllAgree expects setup lines
  agree_to none = λ t number. all_mean (of t) (false_from_ne_true (list_any differs (of t)) (λ some.
      not_both some_differs (is_found differs of 1 many t number.0 (omega (arith, number.1)) some) none))

  agree_from : AllAgree expects setup lines → some_differs ≡ false
  agree_from all = false_from_ne_true some_differs (λ some.
      let found = found_in differs of 1 many some in
      not_both (list_any differs (of found.at)) found.some (none_differs (of found.at) (all found.at (found.low, omega (arith, found.high)))))

  abbrev ends : Bool → Bool → ℕ
  ends a b = if a then 8 else if not a && not b then 9 else 0

  means_so : (a b : Bool) → some_differs ≡ a → some_compared ≡ b → StatusMeans expects setup lines (ends a b)
  means_so true b differ compared = record {
    agree = (λ e. absurd (omega (arith, e)), λ h. absurd (not_both some_differs differ (agree_from h.0)));
    differ = (λ e. differ_to differ, λ h. refl);
    nothing = (λ e. absurd (omega (arith, e)), λ h. absurd (not_both some_differs differ (agree_from h.0)));
    only = inr (inl refl);
  }
  means_so false true none compared = record {
    agree = (λ e. (agree_to none, compared_to compared), λ h. refl);
    differ = (λ e. absurd (omega (arith, e)), λ h. absurd (not_both some_differs (differ_from h) none));
    nothing = (λ e. absurd (omega (arith, e)), λ h. absurd (h.1 (compared_to compared)));
    only = inl refl;
  }
  means_so false false none compared = record {
    agree = (λ e. absurd (omega (arith, e)), λ h. absurd (not_both some_compared (compared_from h.1) compared));
    differ = (λ e. absurd (omega (arith, e)), λ h. absurd (not_both some_differs (differ_from h) none));
    nothing = (λ e. (agree_to none, λ some. not_both some_compared (compared_from some) compared), λ h. refl);
    only = inr (inr refl);
  }

  pub status_means : StatusMeans expects setup lines (status expects setup lines)
  status_means = means_so some_differs some_compared refl refl
